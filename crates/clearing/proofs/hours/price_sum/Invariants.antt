use Rattle.std.proofs.Common.{◌≡◌, ◌*◌, ◌≤◌}
use Rattle.clearing.specs.Results.{result_at}
use Rattle.clearing.specs.Hours.{over_hours}
use Rattle.clearing.proofs.hours.price_sum.Given as goal

abbrev pub invariant-loop-index : goal.invariant-loop-index
invariant-loop-index l =
    (l.sum ≡ over_hours l.hours (λ h. (result_at l.results h).price) l.index)
    × (l.sum ≤ over_hours l.hours (λ _. 1) l.index * 4294967295) × (over_hours l.hours (λ _. 1) l.index ≤ l.index)
