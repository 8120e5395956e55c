use Rattle.std.proofs.Common.{◌≡◌, ◌++◌, drop, string_bytes}
use Rattle.report.specs.Lines.{each}
use Rattle.report.specs.Final.{share_text}
use Rattle.report.proofs.parts.push_row.Given as goal

abbrev pub invariant-loop-i : goal.invariant-loop-i
invariant-loop-i l = string_bytes l.out ++ each (share_text l.row) l.i (drop l.i l.shares) ≡ string_bytes l.initial.out ++ each (share_text l.row) 0 l.shares
