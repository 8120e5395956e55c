-- The hours of a day, the sets of hours of its blocks, and sums over such a set.
use Rattle.std.specs.Prelude.{ℕ, ◌/◌, ◌%◌, ◌^◌, Bool, cond, List, ◌==◌}
use Rattle.clearing.specs.declared.results.HourResult.{HourResult}
use Rattle.clearing.specs.Results.{result_at}
use Rattle.clearing.specs.Upto.{upto}

abbrev pub day_hours : ℕ
day_hours = 24

-- hour h, from 0, is the binary digit h of the set
abbrev pub in_hour : ℕ → ℕ → Bool
in_hour hours h = hours / 2 ^ h % 2 == 1

-- the sum of f over the hours of a set, each counted once
abbrev pub over_hours : ℕ → (ℕ → ℕ) → ℕ → ℕ
over_hours hours f n = upto (λ h. cond (in_hour hours h) (f h) 0) n

abbrev pub hour_count : ℕ → ℕ
hour_count hours = over_hours hours (λ _. 1) day_hours

abbrev pub price_sum : ℕ → List HourResult → ℕ
price_sum hours results = over_hours hours (λ h. (result_at results h).price) day_hours
