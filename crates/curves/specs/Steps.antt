-- What a step order shows, from its pairs.
use Rattle.std.specs.Prelude.{ℕ, cond, List, [], ◌∷◌, nat_le}
use Rattle.curves.specs.declared.sides.Side.{Side}
use Rattle.curves.specs.declared.sides.Side.TheVariants.{Buy, Sell}
use Rattle.curves.specs.Points.{Point}

-- a sell: the volume of the last pair at or below the tick, else v
unfoldable pub last_below : List Point → ℕ → ℕ → ℕ
last_below [] t v = v
last_below (p ∷ ps) t v = last_below ps t (cond (nat_le p.tick t) p.volume v)

-- a buy: the volume of the first pair at or above the tick, else 0
unfoldable pub first_above : List Point → ℕ → ℕ
first_above [] t = 0
first_above (p ∷ ps) t = cond (nat_le t p.tick) p.volume (first_above ps t)

abbrev pub step_shows : Side → List Point → ℕ → ℕ
step_shows Buy ps t = first_above ps t
step_shows Sell ps t = last_below ps t 0

-- the end of the ladder at which a curve of a side shows most
abbrev pub open_end : Side → ℕ
open_end Buy = 1
open_end Sell = 300000
