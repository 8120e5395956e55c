-- The sum of quotients along a slope, by steps as in Euclid's algorithm.
use Rattle.std.proofs.Common.{◌≡◌, ℕ, zero, suc, ◌+◌, ◌-◌, ◌*◌, ◌/◌, ◌%◌, ◌<◌, ◌≤◌, sym, refl, ap, ◌∙◌, inl, inr, div-le_self, mul-div_cancel, arith}
use native.Mathlib.Nat.{add-mul-div_right, add-div_right, div-eq_of_lt}
use Rattle.std.proofs.lemmas.Nat.{mul-le, div-mul-add, div-add-mod', mod_below, div_below}
use Rattle.std.proofs.lemmas.Bool.{cases_lt}
use Rattle.areas.specs.Slope.{slope_sum, triangle}

double : (n : ℕ) → triangle n * 2 ≡ n * (n - 1)
unfolding triangle
double zero = refl
double (suc n) =
    let e : suc n - 1 ≡ n = omega arith in
    let r = double n in
    rw e (elim (cases_lt 0 n) [
      | inl some ↦ let k : (n - 1) + 1 ≡ n = omega arith in let s : n * n ≡ n * (n - 1) + n = ap (λ (x : ℕ). n * x) (sym k) ∙ omega arith in omega arith
      | inr none ↦ let z : n ≡ 0 = omega arith in rw z refl
    ])

pub triangle_is : (n : ℕ) → n * (n - 1) / 2 ≡ triangle n
triangle_is n = ap (λ (x : ℕ). x / 2) (sym (double n)) ∙ mul-div_cancel (triangle n) (omega arith)

-- whole steps of the slope and of the start come out
pub slope_whole : (n m q a s b : ℕ) → 0 < m → slope_sum n m (a + q * m) (b + s * m) ≡ triangle n * q + n * s + slope_sum n m a b
unfolding slope_sum triangle
slope_whole zero m q a s b some = omega arith
slope_whole (suc n) m q a s b some =
    let e : (a + q * m) * n + (b + s * m) ≡ (a * n + b) + (q * n + s) * m = omega arith in
    let d : ((a + q * m) * n + (b + s * m)) / m ≡ (a * n + b) / m + (q * n + s) = ap (λ (x : ℕ). x / m) e ∙ add-mul-div_right (a * n + b) (q * n + s) some in
    omega (arith, d, slope_whole n m q a s b some)

pub slope_none : (n m a b : ℕ) → a * n + b < m → slope_sum n m a b ≡ 0
unfolding slope_sum
slope_none zero m a b lt = refl
slope_none (suc n) m a b lt =
    let k : a * n + b < m = omega arith in
    let z : (a * n + b) / m ≡ 0 = div-eq_of_lt k in
    omega (arith, slope_none n m a b k)

-- one whole step more at the start
slope_more : (n m a b : ℕ) → 0 < m → slope_sum n m a (b + m) ≡ slope_sum n m a b + n
unfolding slope_sum
slope_more zero m a b some = refl
slope_more (suc n) m a b some =
    let e : a * n + (b + m) ≡ (a * n + b) + m = omega arith in
    let d : (a * n + (b + m)) / m ≡ (a * n + b) / m + 1 = ap (λ (x : ℕ). x / m) e ∙ add-div_right (a * n + b) some in
    omega (arith, d, slope_more n m a b some)

-- the first term apart
slope_first : (n m a b : ℕ) → slope_sum (suc n) m a b ≡ b / m + slope_sum n m a (b + a)
unfolding slope_sum
slope_first zero m a b = let e : a * 0 + b ≡ b = omega arith in rw e (omega arith)
slope_first (suc n) m a b =
    let e : a * suc n + b ≡ a * n + (b + a) = omega arith in
    let d : (a * suc n + b) / m ≡ (a * n + (b + a)) / m = ap (λ (x : ℕ). x / m) e in
    let r : slope_sum n m a b + (a * n + b) / m ≡ b / m + slope_sum n m a (b + a) = slope_first n m a b in
    omega arith

-- the slope seen from the other axis
kept_turned : (n m a b k c : ℕ) → 0 < a → c < m → a * suc n + b ≡ k * m + c → a ≤ c → slope_sum n m a b ≡ slope_sum k a m (c - a) → slope_sum (suc n) m a b ≡ slope_sum k a m c
unfolding slope_sum
kept_turned n m a b k c some cm e le r =
    let e' : a * n + b ≡ k * m + (c - a) = omega arith in
    let lt : c - a < m = omega arith in
    let q : (a * n + b) / m ≡ k = ap (λ (x : ℕ). x / m) e' ∙ div-mul-add k m (c - a) lt in
    let w : c - a + a ≡ c = omega arith in
    let s : slope_sum k a m c ≡ slope_sum k a m (c - a) + k = ap (slope_sum k a m) (sym w) ∙ slope_more k a m (c - a) some in
    omega arith

next_turned : (n m a b k c : ℕ) → 0 < a → a < m → a * suc n + b ≡ suc k * m + c → c < a → slope_sum n m a b ≡ slope_sum k a m (c + m - a) → slope_sum (suc n) m a b ≡ slope_sum (suc k) a m c
unfolding slope_sum
next_turned n m a b k c some am e lt r =
    let c0 : ℕ = c + m - a in
    let e' : a * n + b ≡ k * m + c0 = omega arith in
    let low : c0 < m = omega arith in
    let q : (a * n + b) / m ≡ k = ap (λ (x : ℕ). x / m) e' ∙ div-mul-add k m c0 low in
    let z : c / a ≡ 0 = div-eq_of_lt lt in
    let w : c0 + a ≡ c + m = omega arith in
    let s : slope_sum k a m (c + m) ≡ slope_sum k a m c0 + k = ap (slope_sum k a m) (sym w) ∙ slope_more k a m c0 some in
    let f : slope_sum (suc k) a m c ≡ c / a + slope_sum k a m (c + m) = slope_first k a m c in
    omega arith

pub slope_turned : (n m a b k c : ℕ) → 0 < a → a < m → b < m → c < m → a * n + b ≡ k * m + c → slope_sum n m a b ≡ slope_sum k a m c
unfolding slope_sum
slope_turned zero m a b zero c some am bm cm e = refl
slope_turned zero m a b (suc k) c some am bm cm e = absurd (omega arith)
slope_turned (suc n) m a b zero c some am bm cm e =
    let le : a ≤ c = omega arith in
    kept_turned n m a b zero c some cm e le (slope_turned n m a b zero (c - a) some am bm (omega arith) (omega arith))
slope_turned (suc n) m a b (suc k) c some am bm cm e =
    elim (cases_lt c a) [
      | inl lt ↦ next_turned n m a b k c some am e lt (slope_turned n m a b k (c + m - a) some am bm (omega arith) (omega arith))
      | inr le ↦ kept_turned n m a b (suc k) c some cm e le (slope_turned n m a b (suc k) (c - a) some am bm (omega arith) (omega arith))
    ]

-- no more than its terms allow
pub slope_few : (n m a b v : ℕ) → a * n + b ≤ v → slope_sum n m a b ≤ v * n
unfolding slope_sum
slope_few zero m a b v h = omega arith
slope_few (suc n) m a b v h =
    let k : a * n + b ≤ v = omega arith in
    omega (arith, slope_few n m a b v k, div-le_self (a * n + b) m)

-- one step of the sum
module _ (n m a b : ℕ) (some : 0 < m) where
  pub slope_step : slope_sum n m a b ≡ triangle n * (a / m) + n * (b / m) + slope_sum n m (a % m) (b % m)
  slope_step =
      let ea : a % m + a / m * m ≡ a = omega (arith, div-add-mod' a m) in
      let eb : b % m + b / m * m ≡ b = omega (arith, div-add-mod' b m) in
      ap (λ (x : ℕ). slope_sum n m x b) (sym ea) ∙ (ap (slope_sum n m (a % m + a / m * m)) (sym eb) ∙ slope_whole n m (a / m) (a % m) (b / m) (b % m) some)

pub triangle_few : (n : ℕ) → n ≤ 300000 → triangle n ≤ 90000000000
triangle_few n h = omega (arith, double n, mul-le n (n - 1) 300000 300000 h (omega arith))

pub turn_facts : (n m s r : ℕ) → s < m → r < m → m ≤ s * n + r → (0 < s) × ((s * n + r) / m ≤ n)
turn_facts n m s r sm rm top =
    let small : s * n ≤ m * n = mul-le s n m n (omega arith) (omega arith) in
    let below : (s * n + r) / m < n + 1 = div_below (s * n + r) m (n + 1) (omega arith) (omega arith) in
    (elim (cases_lt 0 s) [ inl some ↦ some | inr none ↦ let z : s ≡ 0 = omega arith in let w : s * n ≡ 0 * n = ap (λ (x : ℕ). x * n) z in absurd (omega arith) ], omega arith)

pub slope_else : (n m a b : ℕ) → 0 < m → m ≤ a % m * n + b % m →
    slope_sum n m a b ≡ triangle n * (a / m) + n * (b / m) + slope_sum ((a % m * n + b % m) / m) (a % m) m ((a % m * n + b % m) % m)
slope_else n m a b some top =
    let sm = mod_below a m some in
    let rm = mod_below b m some in
    let f = turn_facts n m (a % m) (b % m) sm rm top in
    let e : a % m * n + b % m ≡ (a % m * n + b % m) / m * m + (a % m * n + b % m) % m = sym (div-add-mod' (a % m * n + b % m) m) in
    slope_step n m a b some
    ∙ ap (λ (x : ℕ). triangle n * (a / m) + n * (b / m) + x) (slope_turned n m (a % m) (b % m) ((a % m * n + b % m) / m) ((a % m * n + b % m) % m) f.0 sm rm (mod_below (a % m * n + b % m) m some) e)

pub slope_then : (n m a b : ℕ) → 0 < m → a % m * n + b % m < m → slope_sum n m a b ≡ triangle n * (a / m) + n * (b / m)
slope_then n m a b some top = slope_step n m a b some ∙ (ap (λ (x : ℕ). triangle n * (a / m) + n * (b / m) + x) (slope_none n m (a % m) (b % m) top) ∙ omega arith)

pub slope_fits : (n m a b : ℕ) → n ≤ 300000 → a ≤ 300000 → b ≤ 300000 → slope_sum n m a b ≤ 90000300000 * 300000
slope_fits n m a b hn ha hb =
    let v : a * n + b ≤ 90000300000 = omega (arith, mul-le a n 300000 300000 ha hn) in
    omega (arith, slope_few n m a b 90000300000 v)
