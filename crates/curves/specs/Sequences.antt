-- Which lists of pairs make a step or linear order, and the first refusal of one that does not.
use Rattle.std.specs.Prelude.{ℕ, ◌+◌, Bool, true, false, cond, ◌&&◌, ◌||◌, List, [], ◌∷◌, length, Ok, Err, Result, nat_le, nat_lt}
use Rattle.faults.specs.declared.fault.Fault.{Fault}
use Rattle.faults.specs.declared.fault.Refusal.TheVariants.{TickNotAbove, VolumeTurned}
use Rattle.faults.specs.Refusals.{fault}
use Rattle.faults.specs.Answers.{out_of_range}
use Rattle.curves.specs.declared.sides.Side.{Side}
use Rattle.curves.specs.declared.sides.Side.TheVariants.{Buy, Sell}
use Rattle.curves.specs.Points.{Point}
use Rattle.curves.specs.Ranges.{bad_tick, bad_volume, bad_count}

-- the volume w after v does not turn against the side: a buy's never rises, a sell's never falls
abbrev pub turns : Side → ℕ → ℕ → Bool
turns Buy v w = nat_le w v
turns Sell v w = nat_le v w

-- p is followed by a pair with a higher tick and a volume that does not turn against the side
abbrev pub follows : Side → Point → List Point → Bool
follows side p [] = true
follows side p (q ∷ qs) = nat_lt p.tick q.tick && turns side p.volume q.volume

unfoldable pub ordered : Side → List Point → Bool
ordered side [] = true
ordered side (p ∷ ps) = follows side p ps && ordered side ps

-- some number of some pair is outside its range
abbrev pub bad_point : Point → Bool
bad_point p = bad_tick p.tick || bad_volume p.volume

-- the pair, or its refusal
abbrev pub pair_asked : Point → Result Point Fault
pair_asked p = cond (bad_point p) (Err out_of_range) (Ok p)

unfoldable pub wild : List Point → Bool
wild [] = false
wild (p ∷ ps) = cond (bad_point p) true (wild ps)

-- pair by pair, the second of the list being pair k: its tick, then its volume
unfoldable pub paired : Side → ℕ → List Point → Result (Unit {0}) Fault
paired side k [] = Ok tt
paired side k (p ∷ []) = Ok tt
paired side k (p ∷ q ∷ ps) =
    cond (nat_le q.tick p.tick) (Err (fault (TickNotAbove k) 0))
    (cond (turns side p.volume q.volume) (paired side (k + 1) (q ∷ ps)) (Err (fault (VolumeTurned k) 0)))

-- all numbers first, then pair by pair
unfoldable pub pairs_verdict : Side → List Point → Result (Unit {0}) Fault
pairs_verdict side ps = cond (bad_count (length ps)) (Err out_of_range) (cond (wild ps) (Err out_of_range) (paired side 2 ps))
