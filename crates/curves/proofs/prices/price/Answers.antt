use Rattle.std.proofs.Common.{◌≡◌, sym, ◌∙◌, subst, rules}
use Rattle.curves.specs.declared.sides.Side.TheVariants.{Buy, Sell}
use Rattle.curves.specs.Price.{Best}
use Rattle.curves.proofs.Rules.{settled_price}
use Rattle.curves.proofs.prices.price.Goals as goal

pub returns-clause-best : goal.returns-clause-best
returns-clause-best g c =
    let buy = c.args.buy.now in
    let sell = c.args.sell.now in
    let near = c.in_ok-near.near in
    let eb : g.B.Curve.faces buy ≡ Buy = search rules in
    let es : g.S.Curve.faces sell ≡ Sell = search rules in
    let settled = settled_price _ _ _ _ near.value eb es (g.met.B.Curve.turned buy) (g.met.S.Curve.turned sell) near.low near.high in
    subst (Best (g.B.Curve.shows buy) (g.S.Curve.shows sell)) (sym (c.get.ensures ∙ c.tick-tick.ensures)) settled.best
