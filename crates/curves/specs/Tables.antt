-- Sides, ticks and tables from tick to volume.
use Rattle.std.specs.Prelude.{◌≡◌, ℕ, ◌≤◌}
use Rattle.curves.specs.declared.sides.Side.{Side}
use Rattle.curves.specs.declared.sides.Side.TheVariants.{Buy, Sell}

-- a tick is from 1 to 300,000
abbrev pub IsTick : ℕ → Type 0
IsTick t = (1 ≤ t) × (t ≤ 300000)

-- never more at a higher tick; never less at a higher tick
abbrev pub Falls : (ℕ → ℕ) → Type 0
Falls f = (t u : ℕ) → 1 ≤ t → t ≤ u → u ≤ 300000 → f u ≤ f t

abbrev pub Rises : (ℕ → ℕ) → Type 0
Rises f = (t u : ℕ) → 1 ≤ t → t ≤ u → u ≤ 300000 → f t ≤ f u

abbrev pub Turned : Side → (ℕ → ℕ) → Type 0
Turned Buy f = Falls f
Turned Sell f = Rises f

-- m is the greatest volume that f shows
pub record Greatest (f : ℕ → ℕ) (m : ℕ) : Type 0 where
  pub bounds : (t : ℕ) → 1 ≤ t → t ≤ 300000 → f t ≤ m
  pub at : ℕ
  pub low : 1 ≤ at
  pub high : at ≤ 300000
  pub attained : f at ≡ m
  pub small : m ≤ 100000000
