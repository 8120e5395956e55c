use Rattle.std.proofs.Common.{◌≡◌}
use Rattle.clearing.proofs.Settling.{count, Running}
use Rattle.clearing.proofs.rounds.settle.Given as goal

abbrev pub invariant-loop-i : goal.invariant-loop-i
invariant-loop-i g l =
    let priced = g.P.Pricer.priced l.pricer in
    Running l.blocks priced l.round l.standing l.marks × (l.results ≡ priced l.standing)

abbrev pub decreases-loop-i : goal.decreases-loop-i
decreases-loop-i g l = count l.standing
