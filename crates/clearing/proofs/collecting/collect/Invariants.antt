use Rattle.std.proofs.Common.{get_or, None}
use Rattle.book.specs.Views.{place_of, sets_of}
use Rattle.clearing.specs.Blocks.{block_of}
use Rattle.clearing.proofs.Tabled.{Filled}
use Rattle.clearing.proofs.collecting.collect.Given as goal

abbrev pub invariant-loop-i : goal.invariant-loop-i
invariant-loop-i l = Filled 256 (λ k. block_of (sets_of l.products) (place_of (get_or l.rows k None))) l.blocks l.i
