use Rattle.std.proofs.Common.{arith}
use Rattle.book.specs.Views.{places}
use Rattle.book.proofs.Placed.{others_and_own}
use Rattle.book.proofs.tables.other_blocks.Goals as goal

pub overflow_sub-result : goal.overflow_sub-result
overflow_sub-result c = grind (arith, others_and_own (places c.args.rows.now) c.args.row)
