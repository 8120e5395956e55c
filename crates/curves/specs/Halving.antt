-- The test by which the search halves the ladder: an excess that is not positive, or (strict) one that is negative.
use Rattle.std.specs.Prelude.{ℕ, Bool, cond, nat_le, nat_lt}

abbrev pub passes : Bool → (ℕ → ℕ) → (ℕ → ℕ) → ℕ → Bool
passes strict b s t = cond strict (nat_lt (b t) (s t)) (nat_le (b t) (s t))
