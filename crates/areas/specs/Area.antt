-- The area of an order: the sum of what it shows at all ticks beyond the price.
use Rattle.std.specs.Prelude.{ℕ, zero, suc, ◌+◌, ◌-◌}
use Rattle.curves.specs.declared.sides.Side.{Side}
use Rattle.curves.specs.declared.sides.Side.TheVariants.{Buy, Sell}
use Rattle.curves.specs.Offers.{Offer, offer_shows}

-- the sum of f over the n ticks from t on
unfoldable pub sum_from : (ℕ → ℕ) → ℕ → ℕ → ℕ
sum_from f zero t = 0
sum_from f (suc n) t = f t + sum_from f n (suc t)

-- the ticks beyond a price, above it for a buy and below it for a sell: how many, and the first of them
abbrev pub ticks_beyond : Side → ℕ → ℕ
ticks_beyond Buy p = 300000 - p
ticks_beyond Sell p = p - 1

abbrev pub first_beyond : Side → ℕ → ℕ
first_beyond Buy p = p + 1
first_beyond Sell p = 1

abbrev pub area_of : Side → (ℕ → ℕ) → ℕ → ℕ
area_of side f p = sum_from f (ticks_beyond side p) (first_beyond side p)

abbrev pub offer_area : Offer → ℕ → ℕ
offer_area o p = area_of o.side (offer_shows o) p
