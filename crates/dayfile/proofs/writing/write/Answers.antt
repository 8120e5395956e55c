use Rattle.std.proofs.Common.{◌≡◌, length, sym, ◌∙◌}
use Rattle.book.specs.Views.{places}
use Rattle.book.proofs.Placed.{placed_length}
use Rattle.dayfile.proofs.Ordering.{sequenced}
use Rattle.dayfile.proofs.Fitting.{opening_returns}
use Rattle.dayfile.proofs.writing.write.Goals as goal

pub returns-then-rows-ne256-clause-ordered : goal.returns-then-rows-ne256-clause-ordered
returns-then-rows-ne256-clause-ordered c = sequenced (places c.args.rows.now)

pub returns-then-rows-ne256-clause-returns : goal.returns-then-rows-ne256-clause-returns
returns-then-rows-ne256-clause-returns c = λ h. absurd (c.if-rows-ne256.true (sym (placed_length c.args.rows.now) ∙ h.long))

pub returns-then-out-text-clause-ordered : goal.returns-then-out-text-clause-ordered
returns-then-out-text-clause-ordered c = sequenced (places c.args.rows.now)

pub returns-then-out-text-clause-returns : goal.returns-then-out-text-clause-returns
returns-then-out-text-clause-returns c = opening_returns c.args.opening.now c.args.rows.now c.print-page.ensures.hours

pub returns-clause-ordered : goal.returns-clause-ordered
returns-clause-ordered c = sequenced (places c.args.rows.now)

pub returns-clause-returns : goal.returns-clause-returns
returns-clause-returns c = opening_returns c.args.opening.now c.args.rows.now c.print-page.ensures.hours
