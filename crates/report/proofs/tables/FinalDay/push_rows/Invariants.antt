use Rattle.std.proofs.Common.{◌≡◌, ◌++◌, drop, string_bytes}
use Rattle.book.specs.Views.{places}
use Rattle.report.specs.Lines.{each}
use Rattle.report.specs.Final.{row_text}
use Rattle.report.proofs.tables.FinalDay.push_rows.Given as goal

abbrev pub invariant-loop-row : goal.invariant-loop-row
invariant-loop-row l = string_bytes l.out ++ each (row_text l.shares) l.row (drop l.row (places l.self.rows.now)) ≡ string_bytes l.initial.out ++ each (row_text l.shares) 0 (places l.self.rows.now)
