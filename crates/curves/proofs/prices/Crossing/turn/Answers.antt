use Rattle.std.proofs.Common.{sym, arith}
use Rattle.curves.specs.Halving.{passes}
use Rattle.curves.proofs.Ladders.{least_is}
use Rattle.curves.proofs.prices.Crossing.turn.Goals as goal

pub returns-clause-is : goal.returns-clause-is
returns-clause-is g c =
    let inv = c.loop-low.invariant in
    sym (least_is (passes c.args.strict (g.B.Curve.shows c.args.self.now.buy.now) (g.S.Curve.shows c.args.self.now.sell.now)) c.loop-low.low
    inv.0 (omega arith) inv.3 (λ h. inv.4 c.loop-low.low (omega arith) h))
