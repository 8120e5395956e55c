-- Sums over ticks.
use Rattle.std.proofs.Common.{◌≡◌, ℕ, zero, suc, ◌+◌, ◌-◌, ◌*◌, ◌/◌, ◌<◌, ◌≤◌, sym, refl, ap, ◌∙◌, arith}
use Rattle.areas.specs.Slope.{slope_sum}
use Rattle.areas.specs.Area.{sum_from}

pub sum_same : (f g : ℕ → ℕ) (n t : ℕ) → ((u : ℕ) → t ≤ u → u < n + t → f u ≡ g u) → sum_from f n t ≡ sum_from g n t
unfolding sum_from
sum_same f g zero t same = refl
sum_same f g (suc n) t same =
    let e : f t ≡ g t = same t (omega arith) (omega arith) in
    let r : sum_from f n (suc t) ≡ sum_from g n (suc t) = sum_same f g n (suc t) (λ u a h. same u (omega arith) (omega arith)) in
    rw (e, r)

pub sum_split : (f : ℕ → ℕ) (m n t : ℕ) → sum_from f (m + n) t ≡ sum_from f m t + sum_from f n (m + t)
unfolding sum_from
sum_split f zero n t =
    let a : zero + n ≡ n = omega arith in
    let b : zero + t ≡ t = omega arith in
    rw (a, b) (omega arith)
sum_split f (suc m) n t =
    let a : suc m + n ≡ suc (m + n) = omega arith in
    let b : suc m + t ≡ m + suc t = omega arith in
    rw (a, b) (omega (arith, sum_split f m n (suc t)))

pub sum_flat : (f : ℕ → ℕ) (v n t : ℕ) → ((u : ℕ) → t ≤ u → u < n + t → f u ≡ v) → sum_from f n t ≡ v * n
unfolding sum_from
sum_flat f v zero t same = omega arith
sum_flat f v (suc n) t same =
    let e : f t ≡ v = same t (omega arith) (omega arith) in
    let r : sum_from f n (suc t) ≡ v * n = sum_flat f v n (suc t) (λ u a h. same u (omega arith) (omega arith)) in
    omega arith

pub sum_level : (v n t : ℕ) → sum_from (λ _. v) n t ≡ v * n
sum_level v n t = sum_flat (λ _. v) v n t (λ _ _ _. refl)

pub sum_few : (f : ℕ → ℕ) (v n t : ℕ) → ((u : ℕ) → f u ≤ v) → sum_from f n t ≤ v * n
unfolding sum_from
sum_few f v zero t few = omega arith
sum_few f v (suc n) t few = omega (arith, few t, sum_few f v n (suc t) few)

-- a sum cut at one place, its parts equal to others
pub sum_cut : (f g h : ℕ → ℕ) (k m n t u : ℕ) → k ≡ m + n → u ≡ m + t → ((w : ℕ) → t ≤ w → w < u → f w ≡ g w) → ((w : ℕ) → u ≤ w → w < n + u → f w ≡ h w) → sum_from f k t ≡ sum_from g m t + sum_from h n u
sum_cut f g h k m n t u ek eu first second =
    let a : sum_from f k t ≡ sum_from f m t + sum_from f n (m + t) = ap (λ (x : ℕ). sum_from f x t) ek ∙ sum_split f m n t in
    let b : sum_from f m t ≡ sum_from g m t = sum_same f g m t (λ w p q. first w p (omega arith)) in
    let c : sum_from f n (m + t) ≡ sum_from h n u = ap (sum_from f n) (sym eu) ∙ sum_same f h n u second in
    omega arith

pub sum_last : (f : ℕ → ℕ) (n t : ℕ) → sum_from f (suc n) t ≡ sum_from f n t + f (t + n)
unfolding sum_from
sum_last f zero t = let e : t + zero ≡ t = omega arith in rw e (omega arith)
sum_last f (suc n) t =
    let e : t + suc n ≡ suc t + n = omega arith in
    rw e (omega (arith, sum_last f n (suc t)))

-- along a slope, upward from the first tick or downward from the last
pub sum_slope : (f : ℕ → ℕ) (v m a b n t : ℕ) → ((i : ℕ) → i < n → f (t + i) ≡ v + (a * i + b) / m) → sum_from f n t ≡ v * n + slope_sum n m a b
unfolding slope_sum sum_from
sum_slope f v m a b zero t same = omega arith
sum_slope f v m a b (suc n) t same =
    omega (arith, sum_last f n t, same n (omega arith), sum_slope f v m a b n t (λ i h. same i (omega arith)))

pub sum_slope_back : (f : ℕ → ℕ) (v m a b n t u : ℕ) → n ≡ u + 1 - t → ((i : ℕ) → i < n → f (u - i) ≡ v + (a * i + b) / m) → sum_from f n t ≡ v * n + slope_sum n m a b
unfolding slope_sum sum_from
sum_slope_back f v m a b zero t u e same = omega arith
sum_slope_back f v m a b (suc n) t u e same =
    let k : u - n ≡ t = omega arith in
    let first : f t ≡ f (u - n) = ap f (sym k) in
    omega (arith, first, same n (omega arith), sum_slope_back f v m a b n (suc t) u (omega arith) (λ i h. same i (omega arith)))

-- a sum over no ticks
pub sum_none : (f : ℕ → ℕ) (n t : ℕ) → n ≡ 0 → sum_from f n t ≡ 0
unfolding sum_from
sum_none f n t e = ap (λ (x : ℕ). sum_from f x t) e

-- no more than an order's greatest volume at every tick of the ladder
pub sum_fits : (f : ℕ → ℕ) (n t : ℕ) → n ≤ 300000 → ((u : ℕ) → f u ≤ 100000) → sum_from f n t ≤ 30000000000
sum_fits f n t h few = omega (arith, sum_few f 100000 n t few)
