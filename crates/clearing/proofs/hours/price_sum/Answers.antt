use Rattle.std.proofs.Common.{rules}
use Rattle.clearing.proofs.Uptos.{upto_none, upto_more}
use Rattle.clearing.proofs.Read.{read_at}
use Rattle.clearing.proofs.hours.price_sum.Goals as goal
use Rattle.clearing.proofs.hours.price_sum.Goals.{then-is_in, else-is_in}

pub loop-index-init : goal.loop-index-init
loop-index-init c = search (rules, upto_none)

pub loop-index-preserved : goal.loop-index-preserved
loop-index-preserved c = elim c.if-is_in.branch [
  | then-is_in w ↦ search (rules, upto_more, read_at c.args.results.now c.loop-index.index c.loop-index-test.true)
  | else-is_in w ↦ search (rules, upto_more)
]
