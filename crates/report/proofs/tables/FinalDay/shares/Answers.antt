use Rattle.std.proofs.Common.{replicate, refl}
use Rattle.clearing.proofs.Tabled.{filled_none, filled_more}
use Rattle.report.proofs.tables.FinalDay.shares.Goals as goal

pub loop-hour-init : goal.loop-hour-init
loop-hour-init c = filled_none 24 _ (replicate 24 (replicate 256 0)) refl

pub loop-hour-preserved : goal.loop-hour-preserved
loop-hour-preserved c = filled_more 24 _ c.loop-hour.table-items c.loop-hour.hour _ c.loop-hour-test.true c.share_hour.ensures c.loop-hour.invariant
