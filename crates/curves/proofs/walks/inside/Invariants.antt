use Rattle.std.proofs.Common.{◌≡◌, ℕ}
use Rattle.std.specs.Slice.Iter.{windows_rest, windows_size}
use Rattle.curves.specs.Views.{points}
use Rattle.curves.specs.Lines.{inside}
use Rattle.curves.proofs.walks.inside.Given as goal

abbrev pub invariant-loop-w : goal.invariant-loop-w
invariant-loop-w l = (windows_size l.w-iterator ≡ 2) × ((v : ℕ) → inside (points (windows_rest l.w-iterator)) l.tick v ≡ inside (points l.pairs) l.tick v)
