use Rattle.std.proofs.Common.{◌≡◌, ℕ, ◌-◌, ◌<◌, ◌≤◌, true, false}
use Rattle.curves.specs.Halving.{passes}
use Rattle.curves.proofs.prices.Crossing.turn.Given as goal

abbrev pub invariant-loop-low : goal.invariant-loop-low
invariant-loop-low g l =
    (1 ≤ l.low) × (l.low ≤ l.high) × (l.high ≤ 300001)
    × ((t : ℕ) → 1 ≤ t → t < l.low → passes l.strict (g.B.Curve.shows l.self.buy.now) (g.S.Curve.shows l.self.sell.now) t ≡ false)
    × ((t : ℕ) → l.high ≤ t → t ≤ 300000 → passes l.strict (g.B.Curve.shows l.self.buy.now) (g.S.Curve.shows l.self.sell.now) t ≡ true)

abbrev pub decreases-loop-low : goal.decreases-loop-low
decreases-loop-low g l = l.high - l.low
