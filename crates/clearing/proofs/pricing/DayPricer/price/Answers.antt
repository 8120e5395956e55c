use Rattle.std.proofs.Common.{ℕ, arith}
use Rattle.book.specs.Views.{places}
use Rattle.clearing.specs.declared.results.HourResult.{HourResult}
use Rattle.clearing.specs.Clearing.{ticks, result_of}
use Rattle.clearing.proofs.Tabled.{filled_none, filled_more, filled_all}
use Rattle.clearing.proofs.pricing.DayPricer.price.Goals as goal

pub loop-index-init : goal.loop-index-init
loop-index-init c = filled_none 24 _ _ c.requires.whole

pub loop-index-preserved : goal.loop-index-preserved
loop-index-preserved c =
    let day = c.args.self.now in
    let at : ℕ → HourResult = result_of (places day.rows.now) day.blocks.now (ticks day.references.now) c.args.standing.now in
    filled_more 24 at c.loop-index.results c.loop-index.index _ (omega arith) c.hour.ensures c.loop-index.invariant

pub returns : goal.returns
returns c = filled_all 24 _ _ c.loop-index.index (omega arith) c.loop-index.invariant
