-- The rounding and the straight line. Only the first lemma opens `nudge`.
use Rattle.std.specs.Prelude.{◌≡◌, ℕ, ◌+◌, ◌-◌, ◌*◌, ◌/◌, ◌<◌, ◌≤◌}
use Rattle.std.proofs.Common.{ap, ◌∙◌, arith, mul-le-mul_right, div-mul-le_self}
use Rattle.std.proofs.Math.Nat.{add-mul-div_right}
use Rattle.std.proofs.lemmas.Nat.{le-div, div_below}
use Rattle.curves.specs.Points.{Point}
use Rattle.curves.specs.Lines.{nudge, rounded, straight}

-- what is added before the cut is less than one whole step: all that the laws need to know of it
pub nudge_small : (d : ℕ) → 0 < d → nudge d < d
unfolding nudge
nudge_small d some = some

-- a whole number of tenths below (above) the exact value is not passed, and the order of exact values is kept
pub rounded_low : (k n d : ℕ) → 0 < d → k * d ≤ n → k ≤ rounded n d
unfolding rounded
rounded_low k n d some h = le-div k (n + nudge d) d some (omega arith)

pub rounded_high : (k n d : ℕ) → 0 < d → n ≤ k * d → rounded n d ≤ k
unfolding rounded
rounded_high k n d some h =
    let more : n + nudge d < (k + 1) * d = omega (arith, nudge_small d some) in
    omega (arith, div_below (n + nudge d) d (k + 1) some more)

pub rounded_mono : (m n d : ℕ) → 0 < d → m ≤ n → rounded m d ≤ rounded n d
unfolding rounded
rounded_mono m n d some h = le-div ((m + nudge d) / d) (n + nudge d) d some (omega (arith, div-mul-le_self (m + nudge d) d))

-- the weighted sum of two volumes
blend_low : (x y i j : ℕ) → x ≤ y → x * (i + j) ≤ x * i + y * j
blend_low x y i j h = let f : x * j ≤ y * j = mul-le-mul_right j h in omega arith

blend_high : (x y i j : ℕ) → x ≤ y → x * i + y * j ≤ y * (i + j)
blend_high x y i j h = let f : x * i ≤ y * i = mul-le-mul_right i h in omega arith

blend_rises : (x y i j k : ℕ) → x ≤ y → x * (i + k) + y * j ≤ x * i + y * (j + k)
blend_rises x y i j k h = let f : x * k ≤ y * k = mul-le-mul_right k h in omega arith

module _ (p q : Point) (t : ℕ) (low : p.tick ≤ t) (high : t ≤ q.tick) (apart : p.tick < q.tick) where
  width : q.tick - p.tick ≡ (q.tick - t) + (t - p.tick)
  width = omega arith

  some : 0 < q.tick - p.tick
  some = omega arith

  pub up_from : p.volume ≤ q.volume → p.volume ≤ straight p q t
  up_from h = rounded_low p.volume _ (q.tick - p.tick) some (rw width (blend_low p.volume q.volume (q.tick - t) (t - p.tick) h))

  pub up_to : p.volume ≤ q.volume → straight p q t ≤ q.volume
  up_to h = rounded_high q.volume _ (q.tick - p.tick) some (rw width (blend_high p.volume q.volume (q.tick - t) (t - p.tick) h))

  pub down_to : q.volume ≤ p.volume → q.volume ≤ straight p q t
  down_to h = rounded_low q.volume _ (q.tick - p.tick) some (rw width (omega (arith, blend_low q.volume p.volume (t - p.tick) (q.tick - t) h)))

  pub down_from : q.volume ≤ p.volume → straight p q t ≤ p.volume
  down_from h = rounded_high p.volume _ (q.tick - p.tick) some (rw width (omega (arith, blend_high q.volume p.volume (t - p.tick) (q.tick - t) h)))

module _ (p q : Point) (t u : ℕ) (low : p.tick ≤ t) (mid : t ≤ u) (high : u ≤ q.tick) (apart : p.tick < q.tick) where
  before : q.tick - t ≡ (q.tick - u) + (u - t)
  before = omega arith

  after : u - p.tick ≡ (t - p.tick) + (u - t)
  after = omega arith

  pub straight_rises : p.volume ≤ q.volume → straight p q t ≤ straight p q u
  straight_rises h = rounded_mono _ _ (q.tick - p.tick) (omega arith)
      (rw (before, after) (blend_rises p.volume q.volume (q.tick - u) (t - p.tick) (u - t) h))

  pub straight_falls : q.volume ≤ p.volume → straight p q u ≤ straight p q t
  straight_falls h = rounded_mono _ _ (q.tick - p.tick) (omega arith)
      (rw (before, after) (omega (arith, blend_rises q.volume p.volume (t - p.tick) (q.tick - u) (u - t) h)))

-- the line meets both pairs
module _ (p q : Point) (apart : p.tick < q.tick) where
  pub straight_start : straight p q p.tick ≡ p.volume
  straight_start =
      let z : p.tick - p.tick ≡ 0 = omega arith in
      let e : p.volume * (q.tick - p.tick) + q.volume * (p.tick - p.tick) ≡ p.volume * (q.tick - p.tick) = rw z (omega arith) in
      omega (arith, rounded_low p.volume (p.volume * (q.tick - p.tick) + q.volume * (p.tick - p.tick)) (q.tick - p.tick) (omega arith) (omega (arith, e)), rounded_high p.volume (p.volume * (q.tick - p.tick) + q.volume * (p.tick - p.tick)) (q.tick - p.tick) (omega arith) (omega (arith, e)))

  pub straight_end : straight p q q.tick ≡ q.volume
  straight_end =
      let z : q.tick - q.tick ≡ 0 = omega arith in
      let e : p.volume * (q.tick - q.tick) + q.volume * (q.tick - p.tick) ≡ q.volume * (q.tick - p.tick) = rw z (omega arith) in
      omega (arith, rounded_low q.volume (p.volume * (q.tick - q.tick) + q.volume * (q.tick - p.tick)) (q.tick - p.tick) (omega arith) (omega (arith, e)), rounded_high q.volume (p.volume * (q.tick - q.tick) + q.volume * (q.tick - p.tick)) (q.tick - p.tick) (omega arith) (omega (arith, e)))

-- the line as a start and a slope, for the sum over a piece
pub straight_up : (p q : Point) (i : ℕ) → p.tick < q.tick → p.volume ≤ q.volume → i ≤ q.tick - p.tick →
    straight p q (p.tick + i) ≡ p.volume + ((q.volume - p.volume) * i + nudge (q.tick - p.tick)) / (q.tick - p.tick)
unfolding rounded
straight_up p q i apart up h =
    let d : ℕ = q.tick - p.tick in
    let g : ℕ = q.volume - p.volume in
    let x : ℕ = p.volume in
    let k : ℕ = d - i in
    let e1 : q.tick - (p.tick + i) ≡ k = omega arith in
    let e2 : p.tick + i - p.tick ≡ i = omega arith in
    let e3 : q.volume ≡ x + g = omega arith in
    let e4 : d ≡ k + i = omega arith in
    let prod : x * d ≡ x * (k + i) = ap (λ (z : ℕ). x * z) e4 in
    let num : x * (q.tick - (p.tick + i)) + q.volume * (p.tick + i - p.tick) ≡ g * i + x * d =
    ap (λ (z : ℕ). x * z + q.volume * (p.tick + i - p.tick)) e1 ∙ (ap (λ (z : ℕ). x * k + q.volume * z) e2 ∙ (ap (λ (z : ℕ). x * k + z * i) e3 ∙ omega arith)) in
    let whole : g * i + x * d + nudge d ≡ (g * i + nudge d) + x * d = omega arith in
    ap (λ (z : ℕ). (z + nudge d) / d) num ∙ (ap (λ (z : ℕ). z / d) whole ∙ (add-mul-div_right (g * i + nudge d) x (omega arith) ∙ omega arith))

pub straight_down : (p q : Point) (i : ℕ) → p.tick < q.tick → q.volume ≤ p.volume → i ≤ q.tick - p.tick →
    straight p q (q.tick - i) ≡ q.volume + ((p.volume - q.volume) * i + nudge (q.tick - p.tick)) / (q.tick - p.tick)
unfolding rounded
straight_down p q i apart down h =
    let d : ℕ = q.tick - p.tick in
    let g : ℕ = p.volume - q.volume in
    let y : ℕ = q.volume in
    let k : ℕ = d - i in
    let e1 : q.tick - (q.tick - i) ≡ i = omega arith in
    let e2 : q.tick - i - p.tick ≡ k = omega arith in
    let e3 : p.volume ≡ y + g = omega arith in
    let e4 : d ≡ k + i = omega arith in
    let prod : y * d ≡ y * (k + i) = ap (λ (z : ℕ). y * z) e4 in
    let num : p.volume * (q.tick - (q.tick - i)) + y * (q.tick - i - p.tick) ≡ g * i + y * d =
    ap (λ (z : ℕ). p.volume * z + y * (q.tick - i - p.tick)) e1 ∙ (ap (λ (z : ℕ). p.volume * i + y * z) e2 ∙ (ap (λ (z : ℕ). z * i + y * k) e3 ∙ omega arith)) in
    let whole : g * i + y * d + nudge d ≡ (g * i + nudge d) + y * d = omega arith in
    ap (λ (z : ℕ). (z + nudge d) / d) num ∙ (ap (λ (z : ℕ). z / d) whole ∙ (add-mul-div_right (g * i + nudge d) y (omega arith) ∙ omega arith))
