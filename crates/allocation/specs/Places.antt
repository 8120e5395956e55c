-- A table's places as claims: an empty one asks for nothing, has the stamp 0 and goes after every claim.
use Rattle.std.specs.Prelude.{ℕ, Bool, true, false, Some, None, Option}

-- a claim's number, such as what it asks or its stamp, at a place
abbrev pub place_number : {C : Type 0} → (C → ℕ) → Option C → ℕ
place_number f None = 0
place_number f (Some a) = f a

abbrev pub place_before : {C : Type 0} → (C → C → Bool) → Option C → Option C → Bool
place_before before None b = false
place_before before (Some a) None = true
place_before before (Some a) (Some b) = before a b
