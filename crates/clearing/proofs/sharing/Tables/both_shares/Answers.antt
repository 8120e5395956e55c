use Rattle.std.proofs.Common.{◌≡◌, ℕ, ◌≤◌, List, length, ap, ◌∙◌, arith}
use Rattle.curves.specs.declared.sides.Side.{Side}
use Rattle.curves.specs.declared.sides.Side.TheVariants.{Buy, Sell}
use Rattle.book.specs.Views.{places, sets_of}
use Rattle.clearing.specs.Sharing.{both_sides, side_shares, shares_on}
use Rattle.clearing.proofs.Cleared.{places_length}
use Rattle.clearing.proofs.Balanced.{hour_shared}
use Rattle.clearing.proofs.sharing.Tables.both_shares.Goals as goal

pub returns : goal.returns
returns c =
    let day = c.args.self.now in
    let rows = day.rows.now in
    let ps = places rows in
    let sets = sets_of day.products.now in
    let ms = day.marks.now in
    let h = day.hour.index in
    let r = c.args.res.now in
    let on : Side → List ℕ = shares_on ps sets ms h r c.args.filled in
    let short : length rows ≤ 256 = omega (arith, day.whole) in
    let n : 256 ≡ length ps = omega (arith, day.whole, places_length rows) in
    let buys : c.shares-bought.result ≡ on Buy = c.shares-bought.ensures ∙ ap (λ t. side_shares ps sets ms h t Buy c.shared_out.result) c.requires ∙ ap (side_shares ps sets ms h r.price Buy) c.shared_out.ensures in
    let sells : c.shares-sold.result ≡ on Sell = c.shares-sold.ensures ∙ ap (λ t. side_shares ps sets ms h t Sell c.shared_out-2.result) c.requires ∙ ap (side_shares ps sets ms h r.price Sell) c.shared_out-2.ensures in
    record {
      is = c.larger.ensures ∙ ap (λ (xs : List ℕ). both_sides xs c.shares-sold.result 256) buys ∙ ap (λ (xs : List ℕ). both_sides (on Buy) xs 256) sells ∙ ap (both_sides (on Buy) (on Sell)) n;
      shared = hour_shared rows sets ms h r c.args.filled short day.hour.within;
    }
