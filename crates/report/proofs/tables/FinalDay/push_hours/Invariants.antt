use Rattle.std.proofs.Common.{◌≡◌, ◌++◌, drop, string_bytes}
use Rattle.report.specs.Lines.{each}
use Rattle.report.specs.Final.{hour_text}
use Rattle.report.proofs.tables.FinalDay.push_hours.Given as goal

abbrev pub invariant-loop-i : goal.invariant-loop-i
invariant-loop-i l = string_bytes l.out ++ each (hour_text l.self.posted) l.i (drop l.i l.self.hours.now) ≡ string_bytes l.initial.out ++ each (hour_text l.self.posted) 0 l.self.hours.now
