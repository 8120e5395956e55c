use Rattle.std.proofs.Common.{ap, ◌∙◌}
use Rattle.curves.proofs.Walked.{volume_or, first_found, last_found}
use Rattle.curves.proofs.chains.Chain.step_at.Goals as goal

pub returns-in-Buy : goal.returns-in-Buy
returns-in-Buy c =
    let found = first_found c.pairs.result.now c.args.tick in
    rw (c.in-Buy.is, ← c.pairs.ensures) (c.volume_of.ensures ∙ (ap (volume_or 0) c.first_above.ensures ∙ found))

pub returns-in-Sell : goal.returns-in-Sell
returns-in-Sell c =
    let found = last_found c.pairs-in-Sell.result.now c.args.tick 0 in
    rw (c.in-Sell.is, ← c.pairs-in-Sell.ensures) (c.volume_of-in-Sell.ensures ∙ (ap (volume_or 0) c.last_below.ensures ∙ found))
