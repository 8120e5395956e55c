use Rattle.std.proofs.Common.{true, set}
use Rattle.book.specs.Views.{places}
use Rattle.clearing.specs.Results.{no_result}
use Rattle.clearing.specs.Clearing.{ticks, result_of}
use Rattle.clearing.proofs.Tabled.{Mixed}
use Rattle.clearing.proofs.pricing.DayPricer.reprice.Given as goal

abbrev pub invariant-loop-index : goal.invariant-loop-index
invariant-loop-index l =
    let at = result_of (places l.self.rows.now) l.self.blocks.now (ticks l.self.references.now) in
    Mixed 24 (at l.standing) (at (set l.standing l.dropped true)) no_result l.results l.index
