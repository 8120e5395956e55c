-- What the call that clears a day answers and leaves, and what holds of it.
use Rattle.std.specs.Prelude.{◌≡◌, ℕ, ◌+◌, ◌<◌, ◌≤◌, Bool, true, false, cond, ◌&&◌, List, length, Some, None, Ok, Err, count_by, Option, Result, ◌==◌, ◌≢◌, slice_index, slice_index_or}
use Rattle.faults.specs.declared.fault.Fault.{Fault}
use Rattle.faults.specs.Answers.{wrong_length}
use Rattle.curves.specs.Price.{price_of, executed, surplus, Best}
use Rattle.book.specs.Bids.{Bid, Place, held}
use Rattle.book.specs.Places.{place_at, blocks_held}
use Rattle.clearing.specs.declared.marks.Cause.{Cause}
use Rattle.clearing.specs.declared.marks.Mark.{Mark}
use Rattle.clearing.specs.declared.marks.Mark.TheVariants.{Kept, Dropped}
use Rattle.clearing.specs.declared.results.HourResult.{HourResult}
use Rattle.clearing.specs.Hours.{day_hours}
use Rattle.clearing.specs.Results.{result_at}
use Rattle.clearing.specs.Rounds.{round_verdict, blocks_before, stood, is_dropped}
use Rattle.clearing.specs.Blocks.{blocks_of}
use Rattle.clearing.specs.Clearing.{bought, sold, results_of, surplus_side}

-- the tables of a day have 256 rows, 24 results and 256 marks
abbrev pub right_tables : ℕ → ℕ → ℕ → Bool
right_tables rows results marks = rows == 256 && (results == 24 && marks == 256)

abbrev pub fix_answer : Bool → ℕ → Result ℕ Fault
fix_answer right rounds = cond right (Ok rounds) (Err wrong_length)

-- no two places that are held have one stamp
pub record Stamped (ps : List Place) : Type 0 where
  pub apart : (i j : ℕ) (a b : Bid) → place_at ps i ≡ held a → place_at ps j ≡ held b → a.stamp ≡ b.stamp → i ≡ j

module _ (ps : List Place) (sets : List ℕ) (refs : List ℕ) where
  -- why block k fails in round r by the marks: at the results of the blocks that stood then
  abbrev pub failure : List Mark → ℕ → ℕ → Option Cause
  failure ms r k = round_verdict (blocks_of sets ps) (results_of ps (blocks_of sets ps) refs) (stood r ms) k

  -- What the marks say of the block orders. A block stood in a round unless it is marked with an earlier one.
  pub record BlocksCleared (rounds : ℕ) (results : List HourResult) (ms : List Mark) : Type 0 where
    -- one block is dropped in each round but the last
    pub counted : rounds ≡ count_by is_dropped ms + 1
    pub few : blocks_held ps ≤ 32 → rounds ≤ 33
    -- the published results are those of the last round, in which no block fails
    pub published : results ≡ results_of ps (blocks_of sets ps) refs (stood rounds ms)
    pub stands : (k : ℕ) → k < length ps → failure ms rounds k ≡ None
    -- a dropped block failed at the results of the round that its mark names, by the cause that it names
    pub failed : (k q : ℕ) (cause : Cause) → k < length ps → slice_index_or ms k Kept ≡ Dropped q cause → (1 ≤ q) × (q < rounds) × (failure ms q k ≡ Some cause)
    -- it goes before no other that failed then
    pub lowest : (k q : ℕ) (cause : Cause) → k < length ps → slice_index_or ms k Kept ≡ Dropped q cause → (j : ℕ) (other : Cause) → j < length ps → failure ms q j ≡ Some other → blocks_before (blocks_of sets ps) k j ≡ false
    -- and each other that failed then goes before it
    pub higher : Stamped ps → (k q : ℕ) (cause : Cause) → k < length ps → slice_index_or ms k Kept ≡ Dropped q cause → (j : ℕ) (other : Cause) → j < length ps → (j ≢ k) → failure ms q j ≡ Some other → blocks_before (blocks_of sets ps) j k ≡ true

  -- an hour's price is the best one over its orders and the blocks that stood in the last round
  pub record HourPriced (fs : List Bool) (h : ℕ) (r : HourResult) : Type 0 where
    pub best : Best (bought ps (blocks_of sets ps) refs fs h) (sold ps (blocks_of sets ps) refs fs h) r.price
    pub price_is : r.price ≡ price_of (bought ps (blocks_of sets ps) refs fs h) (sold ps (blocks_of sets ps) refs fs h) (slice_index refs h)
    pub executed_is : r.executed ≡ executed (bought ps (blocks_of sets ps) refs fs h) (sold ps (blocks_of sets ps) refs fs h) r.price
    pub surplus_is : r.surplus ≡ surplus (bought ps (blocks_of sets ps) refs fs h) (sold ps (blocks_of sets ps) refs fs h) r.price
    pub side_is : r.side ≡ surplus_side (bought ps (blocks_of sets ps) refs fs h r.price) (sold ps (blocks_of sets ps) refs fs h r.price)

  abbrev pub HoursPriced : ℕ → List HourResult → List Mark → Type 0
  HoursPriced rounds results ms = (h : ℕ) → h < day_hours → HourPriced (stood rounds ms) h (result_at results h)
