-- When a standing block fails at a round's results.
use Rattle.std.specs.Prelude.{ℕ, ◌*◌, Bool, true, false, cond, ◌&&◌, List, length, Some, None, Option, nat_lt, slice_index_or}
use Rattle.curves.specs.declared.sides.Side.{Side}
use Rattle.curves.specs.declared.sides.Side.TheVariants.{Buy, Sell}
use Rattle.allocation.specs.declared.block.BlockClaim.{BlockClaim}
use Rattle.book.specs.Shown.{same_side}
use Rattle.clearing.specs.declared.blocks.Block.{Block}
use Rattle.clearing.specs.declared.marks.Cause.{Cause}
use Rattle.clearing.specs.declared.marks.Cause.TheVariants.{Loss, Shortage}
use Rattle.clearing.specs.declared.results.HourResult.{HourResult}
use Rattle.clearing.specs.Upto.{upto, any_upto}
use Rattle.clearing.specs.Results.{result_at}
use Rattle.clearing.specs.Hours.{day_hours, in_hour, hour_count, price_sum}

-- a block ranks by the number of its hours, its volume and its stamp
abbrev pub claim_of : Block → BlockClaim
claim_of b = record { hours = hour_count b.hours; volume = b.volume; stamp = b.stamp }

abbrev pub past_limit : Side → ℕ → ℕ → Bool
past_limit Buy total stake = nat_lt stake total
past_limit Sell total stake = nat_lt total stake

-- the sum of the prices against the limit times the number of hours; a market block, which has no limit, makes no loss
abbrev pub losing : Block → Option ℕ → List HourResult → Bool
losing b None results = false
losing b (Some limit) results = past_limit b.side (price_sum b.hours results) (limit * hour_count b.hours)

abbrev pub loss : Block → List HourResult → Bool
loss b results = losing b b.limit results

-- of a standing block: loss if both hold
abbrev pub cause_of : Bool → Bool → Bool → Option Cause
cause_of false l s = None
cause_of true true s = Some Loss
cause_of true false true = Some Shortage
cause_of true false false = None

abbrev pub adds_of : Bool → Side → ℕ → Option Block → ℕ
adds_of f s h None = 0
adds_of f s h (Some b) = cond (f && (same_side s b.side && in_hour b.hours h)) b.volume 0

abbrev pub verdict_of : Bool → (Block → Bool) → (Block → Bool) → Option Block → Option Cause
verdict_of f losing short None = None
verdict_of f losing short (Some b) = cause_of f (losing b) (short b)

-- The places of a table, empty or with a block, and which of them stand.
module _ (bs : List (Option Block)) (standing : List Bool) where
  -- what place k adds to a side in hour h
  abbrev pub adds : Side → ℕ → ℕ → ℕ
  adds s h k = adds_of (slice_index_or standing k false) s h (slice_index_or bs k None)

  -- the standing blocks of a side together in hour h
  abbrev pub load_of : Side → ℕ → ℕ
  load_of s h = upto (adds s h) (length bs)

  -- together they exceed what is executed there
  abbrev pub short_in : List HourResult → Block → ℕ → Bool
  short_in results b h = in_hour b.hours h && nat_lt (result_at results h).executed (load_of b.side h)

  abbrev pub short : List HourResult → Block → Bool
  short results b = any_upto (short_in results b) day_hours

  -- why block k fails, if it does
  abbrev pub verdict : List HourResult → ℕ → Option Cause
  verdict results k = verdict_of (slice_index_or standing k false) (λ b. loss b results) (short results) (slice_index_or bs k None)
