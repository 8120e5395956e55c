use Rattle.std.proofs.Common.{◌+◌, is_ok, sym, ap, ◌∙◌}
use Rattle.curves.specs.declared.sides.Side.TheVariants.{Buy}
use Rattle.book.specs.Shown.{book_shows}
use Rattle.book.specs.Views.{places}
use Rattle.clearing.specs.Clearing.{ticks, surplus_side}
use Rattle.clearing.proofs.Plain.{result, hour_granted, hour_tick, hour_result, hour_of_day}
use Rattle.clearing.proofs.days.Day.hour.Goals as goal

pub unwrap-price-requires : goal.unwrap-price-requires
unwrap-price-requires c =
    let day = c.args.self.now in
    ap is_ok (hour_granted day.rows.now day.blocks.now c.args.standing.now c.args.hour.index c.load-bought.result c.load-sold.result c.reference_at-reference.result day.few day.placed day.small c.args.hour.within c.load-bought.ensures c.load-sold.ensures c.reference_at-reference.ensures.low c.reference_at-reference.ensures.high _ _ c.number-number.ensures c.price_hour.ensures)

pub buys_at-requires : goal.buys_at-requires
buys_at-requires c =
    let day = c.args.self.now in
    let tick = hour_tick day.rows.now day.blocks.now c.args.standing.now c.args.hour.index c.load-bought.result c.load-sold.result c.reference_at-reference.result day.few day.placed day.small c.args.hour.within c.load-bought.ensures c.load-sold.ensures c.reference_at-reference.ensures.low c.reference_at-reference.ensures.high c.unwrap-price.result (sym c.unwrap-price.ensures ∙ hour_granted day.rows.now day.blocks.now c.args.standing.now c.args.hour.index c.load-bought.result c.load-sold.result c.reference_at-reference.result day.few day.placed day.small c.args.hour.within c.load-bought.ensures c.load-sold.ensures c.reference_at-reference.ensures.low c.reference_at-reference.ensures.high _ _ c.number-number.ensures c.price_hour.ensures) in
    record { low = tick.0; high = tick.1 }

pub returns : goal.returns
returns c =
    let day = c.args.self.now in
    let ps = places day.rows.now in
    let x = c.unwrap-price.result in
    let side = c.surplus_side.ensures ∙ ap (λ n. surplus_side (n + c.load-bought.result) x.1) (c.buys_at.ensures.is ∙ ap (λ n. book_shows n Buy ps x.0) c.number-number.ensures) in
    ap (result x.0 x.1 x.2) side
    ∙ hour_result ps (c.args.hour.index + 1) c.load-bought.result c.load-sold.result c.reference_at-reference.result x (sym c.unwrap-price.ensures ∙ hour_granted day.rows.now day.blocks.now c.args.standing.now c.args.hour.index c.load-bought.result c.load-sold.result c.reference_at-reference.result day.few day.placed day.small c.args.hour.within c.load-bought.ensures c.load-sold.ensures c.reference_at-reference.ensures.low c.reference_at-reference.ensures.high _ _ c.number-number.ensures c.price_hour.ensures)
    ∙ hour_of_day ps day.blocks.now (ticks day.references.now) c.args.standing.now c.args.hour.index c.load-bought.result c.load-sold.result c.reference_at-reference.result c.load-bought.ensures c.load-sold.ensures c.reference_at-reference.ensures.is
