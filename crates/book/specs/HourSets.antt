-- The block products of a day: a list of hour sets, of which block 1 has the first.
use Rattle.std.specs.Prelude.{ℕ, Bool, true, cond, not, ◌&&◌, ◌||◌, List, [], ◌∷◌, ◌++◌, length, Some, None, Option, nat_le, nat_lt, slice_index}
use Rattle.faults.specs.declared.fault.Refusal.TheVariants.{OutOfRange}
use Rattle.curves.specs.Ranges.{outside}
use Rattle.book.specs.Conditions.{Condition, when}

-- a set of hours is a number whose lowest binary digit is hour 1: at least one of 24
abbrev pub bad_hours : ℕ → Bool
bad_hours h = outside 1 16777215 h

abbrev pub all_hours : List ℕ → Bool
all_hours [] = true
all_hours (h ∷ hs) = not (bad_hours h) && all_hours hs

-- a day has at most 14 blocks
abbrev pub push_refusals : List ℕ → ℕ → List Condition
push_refusals hs h = when (bad_hours h || nat_le 14 (length hs)) (OutOfRange 0) ∷ []

abbrev pub pushed : List ℕ → ℕ → List ℕ
pushed hs h = hs ++ (h ∷ [])

-- the hour set at a place from 0, if there is one
abbrev pub hours_at : List ℕ → ℕ → Option ℕ
hours_at hs k = cond (nat_lt k (length hs)) (Some (slice_index hs k)) None
