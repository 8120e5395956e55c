-- A table with a fixed volume added at every tick, and the price of an hour with such a load on each side.
use Rattle.std.specs.Prelude.{ℕ, ◌+◌, min, cond, Err, Result, nat_lt}
use Rattle.faults.specs.declared.fault.Fault.{Fault}
use Rattle.faults.specs.Answers.{out_of_range}
use Rattle.curves.specs.declared.sides.Side.{Side}
use Rattle.curves.specs.Price.{answer}

-- the sum, never above the greatest volume that a curve may show
abbrev pub capped : ℕ → ℕ → ℕ
capped v n = min (n + v) 100000000

-- the answer for a buy and a sell table, whose greatest volumes are mb and ms, with the loads vb and vs: refused where a load would pass the greatest volume
abbrev pub loaded_answer : Side → (ℕ → ℕ) → ℕ → ℕ → Side → (ℕ → ℕ) → ℕ → ℕ → ℕ → Result (ℕ × ℕ × ℕ) Fault
loaded_answer sb b mb vb ss s ms vs ref =
    cond (nat_lt 100000000 (mb + vb)) (Err out_of_range)
    (cond (nat_lt 100000000 (ms + vs)) (Err out_of_range)
    (answer sb (λ t. capped vb (b t)) ss (λ t. capped vs (s t)) ref))
