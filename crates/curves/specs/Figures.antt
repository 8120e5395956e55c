-- The worked figures, as statements over the definitions.
use Rattle.std.specs.Prelude.{◌≡◌, ℕ, ◌≤◌, List, [], ◌∷◌}
use Rattle.curves.specs.declared.sides.Side.TheVariants.{Buy, Sell}
use Rattle.curves.specs.Points.{Point}
use Rattle.curves.specs.Steps.{step_shows}
use Rattle.curves.specs.Lines.{line_shows}
use Rattle.curves.specs.Price.{price_of}

abbrev pub at : ℕ → ℕ → Point
at t v = record { tick = t; volume = v }

-- a sell of two pairs and a buy of two pairs
abbrev pub selling : List Point
selling = at 2000 100 ∷ at 2500 150 ∷ []

abbrev pub buying : List Point
buying = at 2000 150 ∷ at 2500 100 ∷ []

-- step orders of one pair
abbrev pub buys : ℕ → ℕ → ℕ → ℕ
buys t v = step_shows Buy (at t v ∷ [])

abbrev pub sells : ℕ → ℕ → ℕ → ℕ
sells t v = step_shows Sell (at t v ∷ [])

pub record Figures : Type 0 where
  pub step_sell_before : step_shows Sell selling 1999 ≡ 0
  pub step_sell_between : step_shows Sell selling 2499 ≡ 100
  pub step_sell_last : step_shows Sell selling 2500 ≡ 150
  pub linear_sell_middle : line_shows Sell selling 2250 ≡ 125
  pub linear_sell_end : line_shows Sell selling 2499 ≡ 149
  pub step_buy_first : step_shows Buy buying 2000 ≡ 150
  pub step_buy_between : step_shows Buy buying 2001 ≡ 100
  pub step_buy_after : step_shows Buy buying 2501 ≡ 0
  pub linear_buy_start : line_shows Buy buying 2001 ≡ 149
  -- equal volumes from 4000 to 6000: the reference value, or the nearer end
  pub range_below : price_of (buys 6000 100) (sells 4000 100) 3000 ≡ 4000
  pub range_inside : price_of (buys 6000 100) (sells 4000 100) 5000 ≡ 5000
  pub range_above : price_of (buys 6000 100) (sells 4000 100) 7000 ≡ 6000
  -- the tick that executes more
  pub more_bought : (ref : ℕ) → price_of (buys 6000 100) (sells 4000 60) ref ≡ 6000
  pub more_sold : (ref : ℕ) → price_of (buys 6000 60) (sells 4000 100) ref ≡ 4000
  -- nothing to trade at either neighbour, and the reference value above
  pub apart : price_of (buys 4000 100) (sells 4001 100) 5000 ≡ 4001
  pub no_orders : (ref : ℕ) → 1 ≤ ref → ref ≤ 300000 → price_of (λ _. 0) (λ _. 0) ref ≡ ref
  pub market_buy_alone : (v ref : ℕ) → 1 ≤ v → price_of (λ _. v) (λ _. 0) ref ≡ 300000
