-- What each claim receives out of a volume, and what sharing the volume out comes to.
use Rattle.std.specs.Prelude.{◌≡◌, ℕ, ◌-◌, ◌<◌, ◌≤◌, min, Bool, true, cond, List, map, length, Ok, Err, sum_by, sum, Result, ◌≢◌, slice_index, slice_index_or}
use Rattle.faults.specs.Refusals.{fault}
use Rattle.faults.specs.declared.fault.Fault.{Fault}
use Rattle.faults.specs.declared.fault.Refusal.TheVariants.{WrongLength}

module _ {C : Type 0} (asks : C → ℕ) (before : C → C → Bool) where
  -- what the claims that go before x ask for together
  abbrev pub ahead : List C → C → ℕ
  ahead xs x = sum_by (λ y. cond (before y x) (asks y) 0) xs

  -- the smaller of what x asks and what the volume leaves after all claims before it, never below zero
  abbrev pub share_of : ℕ → List C → C → ℕ
  share_of volume xs x = min (asks x) (volume - ahead xs x)

  unfoldable pub shares_of : ℕ → List C → List ℕ
  shares_of volume xs = map (share_of volume xs) xs

-- no two claims that ask for something have one stamp; an empty place of a table asks for nothing
abbrev pub Distinct : {C : Type 0} → (C → ℕ) → (C → ℕ) → List C → Type 0
Distinct {C} asks stamp xs = (i j : ℕ) (d : C) → i < j → j < length xs → 0 < asks (slice_index_or xs i d) → 0 < asks (slice_index_or xs j d) → stamp (slice_index_or xs i d) ≢ stamp (slice_index_or xs j d)

pub record Shared {C : Type 0} (asks stamp : C → ℕ) (before : C → C → Bool) (volume : ℕ) (xs : List C) (shares : List ℕ) : Type 0 where
  -- each share is the rule's
  pub each : shares ≡ shares_of asks before volume xs
  -- with different stamps they add up to the smaller of the volume and what is asked
  pub whole : Distinct asks stamp xs → sum shares ≡ min volume (sum_by asks xs)
  -- a lower claim has a tenth only if each higher one has all it asks for
  pub order : (i j : ℕ) (d : C) → i < length xs → j < length xs → before (slice_index_or xs j d) (slice_index_or xs i d) ≡ true → 0 < slice_index shares i → slice_index shares j ≡ asks (slice_index_or xs j d)
  -- where the volume suffices, each claim has all it asks for
  pub enough : sum_by asks xs ≤ volume → shares ≡ map asks xs

-- the answer of a call whose tables have the right lengths or not
abbrev pub length_answer : Bool → Result (Unit {0}) Fault
length_answer right = cond right (Ok tt) (Err (fault WrongLength 0))
