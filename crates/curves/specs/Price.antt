-- The price of an hour, from the two tables and the reference value.
use Rattle.std.specs.Prelude.{◌≡◌, ℕ, ◌+◌, ◌-◌, ◌≤◌, min, Bool, true, false, cond, ◌&&◌, Ok, Err, Result, ◌==◌, nat_lt}
use Rattle.curves.specs.declared.sides.Side.{Side}
use Rattle.curves.specs.declared.sides.Side.TheVariants.{Buy, Sell}
use Rattle.faults.specs.declared.fault.Fault.{Fault}
use Rattle.faults.specs.Answers.{out_of_range}
use Rattle.curves.specs.Ranges.{bad_tick}
use Rattle.curves.specs.Tables.{Falls, Rises}
use Rattle.curves.specs.Ladder.{least_tick, highest_tick, some_tick, every_tick}

-- at a tick: no excess, a positive one, a negative one
abbrev pub even : (ℕ → ℕ) → (ℕ → ℕ) → ℕ → Bool
even b s t = b t == s t

abbrev pub over : (ℕ → ℕ) → (ℕ → ℕ) → ℕ → Bool
over b s t = nat_lt (s t) (b t)

abbrev pub under : (ℕ → ℕ) → (ℕ → ℕ) → ℕ → Bool
under b s t = nat_lt (b t) (s t)

-- the smaller volume, and the excess without its sign
abbrev pub executed : (ℕ → ℕ) → (ℕ → ℕ) → ℕ → ℕ
executed b s t = min (b t) (s t)

abbrev pub surplus : (ℕ → ℕ) → (ℕ → ℕ) → ℕ → ℕ
surplus b s t = (b t - s t) + (s t - b t)

-- the reference value if it lies from lo to hi, otherwise the end nearer to it
abbrev pub nearest : ℕ → ℕ → ℕ → ℕ
nearest lo hi ref = cond (nat_lt ref lo) lo (cond (nat_lt hi ref) hi ref)

-- of the neighbours h and l, with what each executes and leaves: the one that executes more, then the one with less surplus,
-- then l when the reference is above h
abbrev pub prefer : ℕ → ℕ → ℕ → ℕ → ℕ → ℕ → ℕ → ℕ
prefer eh sh el sl h l ref =
    cond (nat_lt el eh) h (cond (nat_lt eh el) l (cond (nat_lt sh sl) h (cond (nat_lt sl sh) l (cond (nat_lt h ref) l h))))

unfoldable pub better : (ℕ → ℕ) → (ℕ → ℕ) → ℕ → ℕ → ℕ → ℕ
better b s h l ref = prefer (executed b s h) (surplus b s h) (executed b s l) (surplus b s l) h l ref

unfoldable pub price_of : (ℕ → ℕ) → (ℕ → ℕ) → ℕ → ℕ
price_of b s ref =
    cond (some_tick (even b s)) (nearest (least_tick (even b s)) (highest_tick (even b s)) ref)
    (cond (every_tick (over b s)) 300000
    (cond (every_tick (under b s)) 1
    (better b s (highest_tick (over b s)) (highest_tick (over b s) + 1) ref)))

-- no tick executes more, and none that executes as much leaves less surplus
pub record Best (b s : ℕ → ℕ) (p : ℕ) : Type 0 where
  pub executes : (t : ℕ) → 1 ≤ t → t ≤ 300000 → executed b s t ≤ executed b s p
  pub leaves : (t : ℕ) → 1 ≤ t → t ≤ 300000 → executed b s t ≡ executed b s p → surplus b s p ≤ surplus b s t

abbrev pub is_buy : Side → Bool
is_buy Buy = true
is_buy Sell = false

abbrev pub is_sell : Side → Bool
is_sell Buy = false
is_sell Sell = true

-- what the price call answers: refused for a reference value off the ladder or a curve of the wrong side
abbrev pub answer : Side → (ℕ → ℕ) → Side → (ℕ → ℕ) → ℕ → Result (ℕ × ℕ × ℕ) Fault
answer sb b ss s ref =
    cond (bad_tick ref) (Err out_of_range)
    (cond (is_buy sb && is_sell ss) (Ok (price_of b s ref, executed b s (price_of b s ref), surplus b s (price_of b s ref))) (Err out_of_range))

-- two pairs of lawful tables that agree on the ladder have the same price
abbrev pub SeesTicksAlone : Type 0
SeesTicksAlone =
    (b s b' s' : ℕ → ℕ) → Falls b → Rises s → Falls b' → Rises s'
    → ((t : ℕ) → 1 ≤ t → t ≤ 300000 → b t ≡ b' t) → ((t : ℕ) → 1 ≤ t → t ≤ 300000 → s t ≡ s' t)
    → (ref : ℕ) → price_of b s ref ≡ price_of b' s' ref
