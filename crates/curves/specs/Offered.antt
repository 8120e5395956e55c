-- The laws of an order of any form.
use Rattle.std.specs.Prelude.{ℕ, ◌≤◌, take, refl}
use Rattle.std.proofs.Common.{arith}
use Rattle.curves.specs.declared.sides.Side.{Side}
use Rattle.curves.specs.declared.sides.Side.TheVariants.{Buy, Sell}
use Rattle.curves.specs.declared.orders.Order.{Order}
use Rattle.curves.specs.declared.orders.Order.TheVariants.{Market, Step, Linear}
use Rattle.curves.specs.Tables.{Turned, Greatest}
use Rattle.curves.specs.Steps.{open_end}
use Rattle.curves.specs.Chained.{chain_of}
use Rattle.curves.specs.Offers.{offer_shows}
use Rattle.curves.specs.Orders.{offer_of}
use Rattle.curves.specs.Stepped.{small_points, step_turned, step_few}
use Rattle.curves.specs.Lined.{line_turned, line_few}

pub flat_turned : (side : Side) (v : ℕ) → Turned side (λ t. v)
flat_turned Buy v = λ t u a b c. omega arith
flat_turned Sell v = λ t u a b c. omega arith

pub offer_turned : (o : Order) → Turned (offer_of o).side (offer_shows (offer_of o))
offer_turned (Market m) = flat_turned m.side m.volume
offer_turned (Step s) = step_turned s.chain.side (chain_of s.chain) (small_points (take s.chain.count s.chain.pairs)) s.chain.lined
offer_turned (Linear l) = line_turned l.chain.side (chain_of l.chain) l.chain.lined

pub offer_few : (o : Order) (t : ℕ) → offer_shows (offer_of o) t ≤ 100000
offer_few (Market m) t = m.few
offer_few (Step s) t = step_few s.chain.side (chain_of s.chain) t (small_points (take s.chain.count s.chain.pairs)) s.chain.lined
offer_few (Linear l) t = line_few l.chain.side (chain_of l.chain) t (small_points (take l.chain.count l.chain.pairs)) l.chain.lined

-- a table that turns with its side shows most at its open end
pub open_bounded : (side : Side) (f : ℕ → ℕ) → Turned side f → f (open_end side) ≤ 100000000 → Greatest f (f (open_end side))
open_bounded Buy f h small = record {
  bounds = λ t a b. h 1 t (omega arith) a b;
  at = 1;
  low = omega arith;
  high = omega arith;
  attained = refl;
  small = small;
}
open_bounded Sell f h small = record {
  bounds = λ t a b. h t 300000 a b (omega arith);
  at = 300000;
  low = omega arith;
  high = omega arith;
  attained = refl;
  small = small;
}
