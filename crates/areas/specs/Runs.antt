-- What an order shows by the way it runs from pair to pair.
use Rattle.std.specs.Prelude.{ℕ, ◌+◌, ◌-◌, ◌*◌, min, max, List, drop, zip, sum_by}
use Rattle.std.specs.Int.{abs_diff}
use Rattle.curves.specs.declared.sides.Side.{Side}
use Rattle.curves.specs.declared.sides.Side.TheVariants.{Buy, Sell}
use Rattle.curves.specs.declared.pairs.Pair.{Pair}
use Rattle.curves.specs.Points.{Point}
use Rattle.curves.specs.Views.{point}
use Rattle.curves.specs.Steps.{step_shows}
use Rattle.curves.specs.Lines.{nudge, straight, line_shows}
use Rattle.areas.specs.Area.{sum_from}
use Rattle.areas.specs.Slope.{slope_sum}

-- a step order is level between its pairs, a linear order runs straight from one to the next
pub data Way : Type 0 where
  level : Way
  sloped : Way

abbrev pub run_shows : Way → Side → List Point → ℕ → ℕ
run_shows level side ps t = step_shows side ps t
run_shows sloped side ps t = line_shows side ps t

-- between two neighbouring pairs: level at the lower volume, or straight from one to the other
abbrev pub between : Side → Way → Point → Point → ℕ → ℕ
between Buy level p q t = q.volume
between Sell level p q t = p.volume
between Buy sloped p q t = straight p q t
between Sell sloped p q t = straight p q t

-- what is added to the lower volume, summed over the first n ticks of a line
abbrev pub climbed : Way → ℕ → ℕ → ℕ → ℕ
climbed level width height n = 0
climbed sloped width height n = slope_sum n width height (nudge width)

-- the ticks of a piece that lie beyond the price: how many, and the first of them
abbrev pub piece_ticks : Side → Point → Point → ℕ → ℕ
piece_ticks Buy p q price = q.tick - max price p.tick
piece_ticks Sell p q price = min q.tick price - p.tick

abbrev pub piece_first : Side → Point → ℕ → ℕ
piece_first Buy p price = max price p.tick + 1
piece_first Sell p price = p.tick

-- the sum over them
abbrev pub piece_area : Side → Way → Point → Point → ℕ → ℕ
piece_area side way p q price = sum_from (between side way p q) (piece_ticks side p q price) (piece_first side p price)

-- the same from its lower volume and what the way adds
abbrev pub piece_sum : Side → Way → Point → Point → ℕ → ℕ
piece_sum side way p q price = min p.volume q.volume * piece_ticks side p q price + climbed way (max (q.tick - p.tick) 1) (abs_diff p.volume q.volume) (piece_ticks side p q price)

-- over all pieces of a row
abbrev pub row_sum : Side → Way → List Pair → ℕ → ℕ
row_sum side way ps price = sum_by (λ w. piece_sum side way (point w.0) (point w.1) price) (zip ps (drop 1 ps))

-- the ticks beyond the price at which a buy shows the volume of its first pair, a sell that of its last
abbrev pub flat_ticks : Side → Point → ℕ → ℕ
flat_ticks Buy p price = p.tick - price
flat_ticks Sell p price = price - p.tick
