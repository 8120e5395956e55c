use Rattle.std.proofs.Common.{◌≡◌, length, take, drop}
use Rattle.curves.specs.Sequences.{wild}
use Rattle.curves.specs.Views.{points, quotes}
use Rattle.curves.proofs.building.in_range.Given as goal

abbrev pub invariant-loop-i : goal.invariant-loop-i
invariant-loop-i l =
    (length l.pairs ≡ 8) × (points (take l.i l.pairs) ≡ quotes (take l.i l.asked)) × (wild (quotes (drop l.i l.asked)) ≡ wild (quotes l.asked))
