-- The ranges of an order's numbers, and what a number outside them is answered.
use Rattle.std.specs.Prelude.{ℕ, Bool, cond, ◌||◌, Ok, Err, Result, nat_lt}
use Rattle.faults.specs.declared.fault.Fault.{Fault}
use Rattle.faults.specs.Answers.{out_of_range}

-- outside low to high
abbrev pub outside : ℕ → ℕ → ℕ → Bool
outside low high n = nat_lt n low || nat_lt high n

abbrev pub bad_tick : ℕ → Bool
bad_tick = outside 1 300000

abbrev pub bad_volume : ℕ → Bool
bad_volume = outside 1 100000

abbrev pub bad_count : ℕ → Bool
bad_count = outside 1 8

-- the number, or its refusal
abbrev pub tick_asked : ℕ → Result ℕ Fault
tick_asked t = cond (bad_tick t) (Err out_of_range) (Ok t)
