-- The lowest ranked failing block, and the rounds.
use Rattle.std.specs.Prelude.{◌≡◌, ℕ, zero, suc, ◌+◌, ◌<◌, ◌≤◌, Bool, true, false, cond, List, map, length, replicate, Some, None, count_by, Option, nat_le, slice_index_or, slice_set}
use Rattle.allocation.specs.declared.block.BlockClaim.{BlockClaim}
use Rattle.allocation.specs.Places.{place_before}
use Rattle.allocation.specs.Precedence.{block_before}
use Rattle.clearing.specs.declared.blocks.Block.{Block}
use Rattle.clearing.specs.declared.marks.Cause.{Cause}
use Rattle.clearing.specs.declared.marks.Mark.{Mark}
use Rattle.clearing.specs.declared.marks.Mark.TheVariants.{Kept, Dropped}
use Rattle.clearing.specs.declared.results.HourResult.{HourResult}
use Rattle.clearing.specs.Verdicts.{claim_of, verdict}

abbrev pub claimed : Option Block → Option BlockClaim
claimed None = None
claimed (Some b) = Some (claim_of b)

abbrev pub claim_at : List (Option Block) → ℕ → Option BlockClaim
claim_at bs k = claimed (slice_index_or bs k None)

-- does block j go before block k?
abbrev pub blocks_before : List (Option Block) → ℕ → ℕ → Bool
blocks_before bs j k = place_before block_before (claim_at bs j) (claim_at bs k)

-- the lower ranked of a failing block so far and block k, if that fails
abbrev pub lower_of : (ℕ → ℕ → Bool) → Option (ℕ × Cause) → ℕ → Option Cause → Option (ℕ × Cause)
lower_of before w k None = w
lower_of before None k (Some c) = Some (k, c)
lower_of before (Some w) k (Some c) = cond (before w.0 k) (Some (k, c)) (Some w)

-- the lowest ranked failing block below n
unfoldable pub lowest_upto : (ℕ → Option Cause) → (ℕ → ℕ → Bool) → ℕ → Option (ℕ × Cause)
lowest_upto verdict before zero = None
lowest_upto verdict before (suc n) = lower_of before (lowest_upto verdict before n) n (verdict n)

abbrev pub Within : Option (ℕ × Cause) → ℕ → Type 0
Within None n = Unit {0}
Within (Some w) n = w.0 < n

-- the standing blocks, the marks and the round reached
pub record Outcome : Type 0 where
  pub standing : List Bool
  pub marks : List Mark
  pub rounds : ℕ

abbrev pub outcome : List Bool → List Mark → ℕ → Outcome
outcome fs ms r = record { standing = fs; marks = ms; rounds = r }

-- From round r on: `next` says which standing block is dropped, and why. One block a round at most, so the number of
-- standing blocks bounds the rounds.
unfoldable pub rounds_from : (List Bool → Option (ℕ × Cause)) → ℕ → ℕ → List Bool → List Mark → Outcome
rounds_from next zero r fs ms = outcome fs ms r
rounds_from next (suc n) r fs ms = elim (next fs) [
  | None ↦ outcome fs ms r
  | Some w ↦ rounds_from next n (r + 1) (slice_set fs w.0 false) (slice_set ms w.0 (Dropped r w.1))
]

-- The verdict on block k in a round in which the blocks fs stand: what it is at that round's results.
abbrev pub round_verdict : List (Option Block) → (List Bool → List HourResult) → List Bool → ℕ → Option Cause
round_verdict bs priced fs = verdict bs fs (priced fs)

-- the block that is dropped while the blocks fs stand
abbrev pub next_drop : List (Option Block) → (List Bool → List HourResult) → List Bool → Option (ℕ × Cause)
next_drop bs priced fs = lowest_upto (round_verdict bs priced fs) (blocks_before bs) (length bs)

-- the rounds of a day, from round 1 with every block standing
abbrev pub rounds_of : List (Option Block) → (List Bool → List HourResult) → Outcome
rounds_of bs priced = rounds_from (next_drop bs priced) (length bs) 1 (replicate (length bs) true) (replicate (length bs) Kept)

-- did a block with this mark stand in round r?
abbrev pub stood_in : ℕ → Mark → Bool
stood_in r Kept = true
stood_in r (Dropped q cause) = nat_le r q

-- the blocks that stood in round r: those not marked with an earlier round
abbrev pub stood : ℕ → List Mark → List Bool
stood r ms = map (stood_in r) ms

abbrev pub is_dropped : Mark → Bool
is_dropped Kept = false
is_dropped (Dropped q cause) = true

-- What the marks and the number of rounds say: `verdicts fs k` is the verdict on block k while the blocks fs stand.
pub record Settled (n : ℕ) (verdicts : List Bool → ℕ → Option Cause) (before : ℕ → ℕ → Bool) (fs : List Bool) (ms : List Mark) (rounds : ℕ) : Type 0 where
  pub long : length ms ≡ n
  -- those that stand are the unmarked
  pub last : fs ≡ stood rounds ms
  -- a dropped block failed in its round by its cause
  pub failed : (k q : ℕ) (cause : Cause) → k < n → slice_index_or ms k Kept ≡ Dropped q cause → (1 ≤ q) × (q < rounds) × (verdicts (stood q ms) k ≡ Some cause)
  -- and no failing block then ranked lower
  pub lowest : (k q : ℕ) (cause : Cause) → k < n → slice_index_or ms k Kept ≡ Dropped q cause → (j : ℕ) (other : Cause) → j < n → verdicts (stood q ms) j ≡ Some other → before k j ≡ false
  -- one block a round, and a last round
  pub counted : rounds ≡ count_by is_dropped ms + 1
  -- in which none fails
  pub done : (k : ℕ) → k < n → verdicts (stood rounds ms) k ≡ None
