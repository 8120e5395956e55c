use Rattle.std.proofs.Common.{◌<◌, ◌-◌, arith}
use Rattle.curves.proofs.Rules.{Parted, parted_at, nearest_clamped, price_even, price_over_ladder, price_under, price_turn}
use Rattle.curves.proofs.prices.Crossing.tick.Given as given
use Rattle.curves.proofs.prices.Crossing.tick.Goals as goal
use Rattle.curves.proofs.prices.Crossing.tick.Goals.{After-turn-past, then-from-past, else-from-past+then-from-gt300000, else-from-past+else-from-gt300000+then-from-eq1, else-from-past+else-from-gt300000+else-from-eq1}

parts : (g : given.Over) (c : After-turn-past g) → Parted (g.B.Curve.shows c.args.self.now.buy.now) (g.S.Curve.shows c.args.self.now.sell.now) c.turn-from.result c.turn-past.result
parts g c = parted_at _ _ _ _ _ _ c.args.self.now.buys c.args.self.now.sells
    (g.met.B.Curve.turned c.args.self.now.buy.now) (g.met.S.Curve.turned c.args.self.now.sell.now) c.turn-from.ensures.is c.turn-past.ensures.is

pub returns : goal.returns
returns g c =
    let p = parts g (goal.at.returns g c).After-turn-past in
    let from = c.turn-from.result in
    let ref = c.args.reference.value in
    elim c.if-from-past.branch [
      | then-from-past w ↦
          let e = price_even _ _ _ _ ref p w.if-from-past.true in
          let n = nearest_clamped from (c.turn-past.result - 1) ref (omega arith) in
          cc
      | else-from-past+then-from-gt300000 w ↦
          let e = price_over_ladder _ _ _ _ ref p w.if-from-past.false w.if-from-gt300000.true in
          cc
      | else-from-past+else-from-gt300000+then-from-eq1 w ↦
          let e = price_under _ _ _ _ ref p w.if-from-past.false w.if-from-eq1.true in
          cc
      | else-from-past+else-from-gt300000+else-from-eq1 w ↦
          let more : 1 < from = omega (arith, p.low) in
          let e = price_turn _ _ _ _ ref p w.if-from-past.false more w.if-from-gt300000.false in
          cc
    ]
