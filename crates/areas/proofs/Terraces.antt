-- The area of one piece.
use Rattle.std.proofs.Common.{◌≡◌, ℕ, ◌+◌, ◌-◌, ◌<◌, ◌≤◌, min, max, true, refl, ◌∙◌, arith}
use Rattle.std.proofs.lemmas.Bool.{leb-true}
use Rattle.std.specs.Int.{abs_diff}
use Rattle.areas.specs.Runs.{Way, level, sloped, between, piece_area, piece_sum}
use Rattle.areas.proofs.Sums.{sum_flat, sum_slope, sum_slope_back}
use Rattle.curves.specs.declared.sides.Side.{Side}
use Rattle.curves.specs.declared.sides.Side.TheVariants.{Buy, Sell}
use Rattle.curves.specs.Points.{Point}
use Rattle.curves.specs.Sequences.{turns}
use Rattle.curves.specs.Lines.{nudge, straight}
use Rattle.curves.specs.Tenths.{straight_up, straight_down}

-- the sum over its ticks is its lower volume at each, and what the way adds
pub piece_is : (side : Side) (way : Way) (p q : Point) (price : ℕ) → p.tick < q.tick → turns side p.volume q.volume ≡ true → piece_area side way p q price ≡ piece_sum side way p q price
piece_is Buy level p q price a h =
    let low : q.volume ≤ p.volume = leb-true _ _ h in
    let foot : min p.volume q.volume ≡ q.volume = omega arith in
    rw foot (sum_flat (between Buy level p q) q.volume (q.tick - max price p.tick) (max price p.tick + 1) (λ _ _ _. refl) ∙ omega arith)
piece_is Sell level p q price a h =
    let low : p.volume ≤ q.volume = leb-true _ _ h in
    let foot : min p.volume q.volume ≡ p.volume = omega arith in
    rw foot (sum_flat (between Sell level p q) p.volume (min q.tick price - p.tick) p.tick (λ _ _ _. refl) ∙ omega arith)
piece_is Buy sloped p q price a h =
    let low : q.volume ≤ p.volume = leb-true _ _ h in
    let foot : min p.volume q.volume ≡ q.volume = omega arith in
    let height : abs_diff p.volume q.volume ≡ p.volume - q.volume = omega arith in
    let width : max (q.tick - p.tick) 1 ≡ q.tick - p.tick = omega arith in
    rw (foot, height, width) (sum_slope_back (straight p q) q.volume (q.tick - p.tick) (p.volume - q.volume) (nudge (q.tick - p.tick)) (q.tick - max price p.tick) (max price p.tick + 1) q.tick (omega arith)
    (λ i k. straight_down p q i a low (omega arith)))
piece_is Sell sloped p q price a h =
    let low : p.volume ≤ q.volume = leb-true _ _ h in
    let foot : min p.volume q.volume ≡ p.volume = omega arith in
    let height : abs_diff p.volume q.volume ≡ q.volume - p.volume = omega arith in
    let width : max (q.tick - p.tick) 1 ≡ q.tick - p.tick = omega arith in
    rw (foot, height, width) (sum_slope (straight p q) p.volume (q.tick - p.tick) (q.volume - p.volume) (nudge (q.tick - p.tick)) (min q.tick price - p.tick) p.tick
    (λ i k. straight_up p q i a low (omega arith)))
