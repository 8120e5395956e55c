-- What is read of a cleared day: hours and blocks are counted from 1, rows from 0.
use Rattle.std.specs.Prelude.{ℕ, ◌-◌, Bool, cond, ◌&&◌, List, length, Some, None, Ok, Err, Option, Result, ◌==◌, slice_index_or}
use Rattle.faults.specs.declared.fault.Fault.{Fault}
use Rattle.faults.specs.declared.fault.Refusal.TheVariants.{NoSuchBlock}
use Rattle.faults.specs.Answers.{out_of_range, wrong_length}
use Rattle.faults.specs.Refusals.{fault}
use Rattle.curves.specs.Ranges.{outside, bad_tick}
use Rattle.book.specs.HourSets.{hours_at}
use Rattle.book.specs.Shown.{bad_hour}
use Rattle.book.specs.Verdicts.{bad_row}
use Rattle.clearing.specs.declared.marks.Mark.{Mark}
use Rattle.clearing.specs.declared.marks.Mark.TheVariants.{Kept}
use Rattle.clearing.specs.declared.results.HourResult.{HourResult}
use Rattle.clearing.specs.BlockPrice.{block_price}
use Rattle.clearing.specs.Results.{result_at}

-- the result of an hour, out of 24
abbrev pub result_in : List HourResult → ℕ → Result HourResult Fault
result_in rs h = cond (length rs == 24) (cond (bad_hour h) (Err out_of_range) (Ok (result_at rs (h - 1)))) (Err wrong_length)

-- the mark of a row, out of 256
abbrev pub mark_in : List Mark → ℕ → Result Mark Fault
mark_in ms k = cond (length ms == 256) (cond (bad_row k) (Err out_of_range) (Ok (slice_index_or ms k Kept))) (Err wrong_length)

-- the price of a block by its hours, if the day has it
abbrev pub price_over : List HourResult → Option ℕ → Result ℕ Fault
price_over rs (Some hours) = Ok (block_price hours rs)
price_over rs None = Err (fault NoSuchBlock 0)

-- blocks are 1 to 14
abbrev pub bad_block : ℕ → Bool
bad_block b = outside 1 14 b

abbrev pub block_price_in : List HourResult → List ℕ → ℕ → Result ℕ Fault
block_price_in rs sets b = cond (length rs == 24) (cond (bad_block b) (Err out_of_range) (price_over rs (hours_at sets (b - 1)))) (Err wrong_length)

-- the lent tables have 256 rows, 24 results, 256 marks, 128 post places and 256 shares
abbrev pub right_shares : ℕ → ℕ → ℕ → ℕ → ℕ → Bool
right_shares rows hours marks posts shares = rows == 256 && (hours == 24 && (marks == 256 && (posts == 128 && shares == 256)))

-- what sharing an hour is answered: the lengths first, then the hour, then its price
abbrev pub shares_answer : Bool → List HourResult → ℕ → Result (Unit {0}) Fault
shares_answer right rs h = cond right (cond (bad_hour h) (Err out_of_range) (cond (bad_tick (result_at rs (h - 1)).price) (Err out_of_range) (Ok tt))) (Err wrong_length)
