-- A block's price: the mean of its hours' prices, to the cent, half a cent upward.
use Rattle.std.specs.Prelude.{ℕ, ◌+◌, ◌*◌, ◌/◌, cond, List, length, Ok, Err, Result, ◌==◌}
use Rattle.faults.specs.declared.fault.Fault.{Fault}
use Rattle.faults.specs.Answers.{out_of_range, wrong_length}
use Rattle.book.specs.HourSets.{bad_hours}
use Rattle.clearing.specs.declared.results.HourResult.{HourResult}
use Rattle.clearing.specs.Hours.{day_hours, hour_count, price_sum}

-- the nearest whole number to a sum over n, the upper one of two
abbrev pub mean_up : ℕ → ℕ → ℕ
mean_up sum n = (2 * sum + n) / (2 * n)

-- each hour counts once
abbrev pub block_price : ℕ → List HourResult → ℕ
block_price hours results = mean_up (price_sum hours results) (hour_count hours)

abbrev pub block_price_answer : ℕ → List HourResult → Result ℕ Fault
block_price_answer hours results = cond (length results == day_hours) (cond (bad_hours hours) (Err out_of_range) (Ok (block_price hours results))) (Err wrong_length)
