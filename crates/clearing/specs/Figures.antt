-- The worked figure of a block order: one hour sells at 4000, the next at 5200, and a block buys in both.
use Rattle.std.specs.Prelude.{◌≡◌, ℕ, List, [], ◌∷◌, replicate}
use Rattle.curves.specs.declared.sides.Side.TheVariants.{Buy, Sell}
use Rattle.curves.specs.Offers.{stairs, offer}
use Rattle.curves.specs.Figures.{Figures, at}
use Rattle.book.specs.Bids.{Place, held}
use Rattle.clearing.specs.declared.marks.Cause.TheVariants.{Loss}
use Rattle.clearing.specs.declared.marks.Mark.TheVariants.{Kept, Dropped}
use Rattle.clearing.specs.Results.{result_at}
use Rattle.clearing.specs.Clearing.{Clearing, clearing_of}

-- a step sell of 10 at a tick, in an hour; the stamp is the hour's number
abbrev pub seller : ℕ → ℕ → Place
seller hour tick = held (record { member = 7; product = hour; stamp = hour; offer = offer Sell (stairs (at tick 10 ∷ [])) })

-- a step buy of 10 for block 1
abbrev pub buyer : ℕ → Place
buyer limit = held (record { member = 8; product = 25; stamp = 3; offer = offer Buy (stairs (at limit 10 ∷ [])) })

abbrev pub figure : ℕ → List Place
figure limit = seller 1 4000 ∷ seller 2 5200 ∷ buyer limit ∷ []

-- block 1 has the hours 1 and 2; the reference values are 5000
abbrev pub cleared : ℕ → Clearing
cleared limit = clearing_of (figure limit) (3 ∷ []) (replicate 24 5000)

pub record BlockFigure : Type 0 where
  -- the prices 5000 and 5200 are twice 5100
  pub stands_rounds : (cleared 5100).rounds ≡ 1
  pub stands_marks : (cleared 5100).marks ≡ Kept ∷ Kept ∷ Kept ∷ []
  pub stands_first : (result_at (cleared 5100).results 0).price ≡ 5000
  pub stands_second : (result_at (cleared 5100).results 1).price ≡ 5200
  -- and more than twice 5099
  pub drops_rounds : (cleared 5099).rounds ≡ 2
  pub drops_marks : (cleared 5099).marks ≡ Kept ∷ Kept ∷ Dropped 1 Loss ∷ []
  pub drops_first : (result_at (cleared 5099).results 0).price ≡ 3999
  pub drops_second : (result_at (cleared 5099).results 1).price ≡ 5000

-- the figures of curves and prices, and this one
pub record WorkedFigures : Type 0 where
  pub prices : Figures
  pub block : BlockFigure
