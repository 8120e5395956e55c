use Rattle.std.proofs.Common.{◌≡◌, ◌≤◌}
use Rattle.clearing.specs.Hours.{over_hours}
use Rattle.clearing.proofs.hours.hour_count.Given as goal

abbrev pub invariant-loop-index : goal.invariant-loop-index
invariant-loop-index l = (l.count ≡ over_hours l.hours (λ _. 1) l.index) × (l.count ≤ l.index)
