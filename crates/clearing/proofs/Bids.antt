-- The claims of a row, by its entry where that is one of the hour and side.
use Rattle.std.proofs.Common.{◌≡◌, ℕ, Bool, true, false, cond, Some, None, Option, refl}
use Rattle.std.specs.Option.{option_and_then}
use Rattle.curves.specs.declared.sides.Side.{Side}
use Rattle.book.specs.declared.entries.Entry.{Entry}
use Rattle.book.specs.Bids.{Bid}
use Rattle.book.specs.Views.{entry_of, place_of}
use Rattle.curves.specs.declared.markets.Market.{Market as MarketOrder}
use Rattle.curves.specs.declared.orders.Order.{Order}
use Rattle.curves.specs.declared.orders.Order.TheVariants.{Market, Step, Linear}
use Rattle.curves.specs.Offers.{offer_shows}
use Rattle.curves.specs.Orders.{offer_of}
use Rattle.areas.specs.Area.{offer_area}
use Rattle.clearing.specs.Claims.{bids_in, entry_in, market_bid, limit_bid, market_of, limit_of}

chosen : {A : Type 0} (f : Bid → Option A) (q : Bool) (e : Entry) → cond q (f (entry_of e)) None ≡ option_and_then (λ x. f (entry_of x)) (cond q (Some e) None)
chosen f true e = refl
chosen f false e = refl

pub market_in : (hour : ℕ) (side : Side) (r : Option Entry) → market_of hour side (place_of r) ≡ option_and_then (λ e. market_bid (entry_of e) (entry_of e).offer.form) (entry_in hour side r)
market_in hour side None = refl
market_in hour side (Some e) = chosen (λ b. market_bid b b.offer.form) (bids_in hour side (entry_of e)) e

pub limit_in : (hour : ℕ) (side : Side) (t : ℕ) (r : Option Entry) → limit_of hour side t (place_of r) ≡ option_and_then (λ e. limit_bid (entry_of e) t (entry_of e).offer.form) (entry_in hour side r)
limit_in hour side t None = refl
limit_in hour side t (Some e) = chosen (λ b. limit_bid b t b.offer.form) (bids_in hour side (entry_of e)) e

-- what an order that is no market order claims

pub no_market : (b : Bid) (o : Order) → ((m : MarketOrder) → o ≡ Market m → ⊥) → market_bid b (offer_of o).form ≡ None
no_market b (Market m) other = absurd (other m refl)
no_market b (Step s) other = refl
no_market b (Linear l) other = refl

pub some_limit : (b : Bid) (t : ℕ) (o : Order) → ((m : MarketOrder) → o ≡ Market m → ⊥) → limit_bid b t (offer_of o).form ≡ Some (record { area = offer_area b.offer t; volume = offer_shows b.offer t; stamp = b.stamp })
some_limit b t (Market m) other = absurd (other m refl)
some_limit b t (Step s) other = refl
some_limit b t (Linear l) other = refl
