use Rattle.std.proofs.Common.{◌≡◌, ◌+◌, length}
use Rattle.std.specs.Slice.Iter.{windows_rest, windows_size}
use Rattle.std.specs.Iterator.Adapters.{enumerate_source, enumerate_count}
use Rattle.curves.specs.Sequences.{paired}
use Rattle.curves.specs.Views.{points}
use Rattle.curves.proofs.building.pair_by_pair.Given as goal

abbrev pub invariant-loop-i : goal.invariant-loop-i
invariant-loop-i l =
    let left = windows_rest (enumerate_source l.i-iterator) in
    let k = enumerate_count l.i-iterator in
    (windows_size (enumerate_source l.i-iterator) ≡ 2) × (k + length left ≡ length l.pairs) × (paired l.side (k + 2) (points left) ≡ paired l.side 2 (points l.pairs))
