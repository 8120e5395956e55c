use Rattle.std.proofs.Common.{◌≡◌, ◌++◌, drop, string_bytes}
use Rattle.book.specs.Views.{sets_of}
use Rattle.report.specs.Lines.{each}
use Rattle.report.specs.Final.{block_text}
use Rattle.report.proofs.tables.FinalDay.push_blocks.Given as goal

abbrev pub invariant-loop-k : goal.invariant-loop-k
invariant-loop-k l = string_bytes l.out ++ each (block_text l.self.hours.now) l.k (drop l.k (sets_of l.self.blocks.now)) ≡ string_bytes l.initial.out ++ each (block_text l.self.hours.now) 0 (sets_of l.self.blocks.now)
