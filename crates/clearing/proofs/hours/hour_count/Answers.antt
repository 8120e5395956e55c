use Rattle.std.proofs.Common.{rules}
use Rattle.clearing.proofs.Uptos.{upto_none, upto_more}
use Rattle.clearing.proofs.hours.hour_count.Goals as goal

pub loop-index-init : goal.loop-index-init
loop-index-init c = search (rules, upto_none)

pub loop-index-preserved : goal.loop-index-preserved
loop-index-preserved c = search (rules, upto_more)
