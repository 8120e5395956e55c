-- What the searches over the ladder find.
use Rattle.std.proofs.Common.{◌≡◌, ℕ, zero, suc, ◌+◌, ◌<◌, ◌≤◌, Bool, true, false, sym, refl, ◌∙◌, subst, inl, inr, arith}
use Rattle.std.proofs.lemmas.Bool.{cases_lt, cases_Bool, cond-true, cond-false}
use Rattle.curves.specs.Ladder.{least_from, highest_to, least_tick, highest_tick}

least_from_is : (p : ℕ → Bool) (n t r : ℕ) → t ≤ r → r ≤ n + t → ((u : ℕ) → t ≤ u → u < r → p u ≡ false) → (r < n + t → p r ≡ true) → least_from p n t ≡ r
unfolding least_from
least_from_is p zero t r low high before here = omega arith
least_from_is p (suc n) t r low high before here =
    elim (cases_lt t r) [
      | inl lt ↦ cond-false (p t) _ _ (before t (omega arith) lt) ∙ least_from_is p n (suc t) r lt (omega arith) (λ u a b. before u (omega arith) b) (λ a. here (omega arith))
      | inr le ↦
          let e : t ≡ r = omega arith in
          let q : p t ≡ true = rw e (here (omega arith)) in
          cond-true (p t) _ _ q ∙ e
    ]

pub least_is : (p : ℕ → Bool) (r : ℕ) → 1 ≤ r → r ≤ 300001 → ((u : ℕ) → 1 ≤ u → u < r → p u ≡ false) → (r ≤ 300000 → p r ≡ true) → least_tick p ≡ r
unfolding least_tick
least_is p r low high before here = least_from_is p 300000 1 r low (omega arith) before (λ a. here (omega arith))

highest_to_is : (p : ℕ → Bool) (n r : ℕ) → r ≤ n → ((u : ℕ) → r < u → u ≤ n → p u ≡ false) → (1 ≤ r → p r ≡ true) → highest_to p n ≡ r
unfolding highest_to
highest_to_is p zero r high after here = omega arith
highest_to_is p (suc n) r high after here =
    elim (cases_lt r (suc n)) [
      | inl lt ↦ cond-false (p (suc n)) _ _ (after (suc n) lt (omega arith)) ∙ highest_to_is p n r (omega arith) (λ u a b. after u a (omega arith)) here
      | inr le ↦
          let e : suc n ≡ r = omega arith in
          let q : p (suc n) ≡ true = rw e (here (omega arith)) in
          cond-true (p (suc n)) _ _ q ∙ e
    ]

pub highest_is : (p : ℕ → Bool) (r : ℕ) → r ≤ 300000 → ((u : ℕ) → r < u → u ≤ 300000 → p u ≡ false) → (1 ≤ r → p r ≡ true) → highest_tick p ≡ r
unfolding highest_tick
highest_is p r = highest_to_is p 300000 r

-- the least tick that passes, by its facts
pub record Least (p : ℕ → Bool) (r : ℕ) : Type 0 where
  pub low : 1 ≤ r
  pub high : r ≤ 300001
  pub before : (u : ℕ) → 1 ≤ u → u < r → p u ≡ false
  pub here : r ≤ 300000 → p r ≡ true

pub record LeastFrom (p : ℕ → Bool) (n t r : ℕ) : Type 0 where
  pub low : t ≤ r
  pub high : r ≤ n + t
  pub before : (u : ℕ) → t ≤ u → u < r → p u ≡ false
  pub here : r < n + t → p r ≡ true

least_from_has : (p : ℕ → Bool) (n t : ℕ) → LeastFrom p n t (least_from p n t)
unfolding least_from
least_from_has p zero t = record { low = omega arith; high = omega arith; before = λ u a b. absurd (omega arith); here = λ a. absurd (omega arith) }
least_from_has p (suc n) t =
    elim (cases_Bool (p t)) [
      | inl yes-t ↦ subst (LeastFrom p (suc n) t) (sym (cond-true (p t) t (least_from p n (suc t)) yes-t))
          (record { low = omega arith; high = omega arith; before = λ u a b. absurd (omega arith); here = λ a. yes-t })
      | inr no-t ↦
          let more = least_from_has p n (suc t) in
          subst (LeastFrom p (suc n) t) (sym (cond-false (p t) t (least_from p n (suc t)) no-t))
          (record {
            low = omega (arith, more.low);
            high = omega (arith, more.high);
            before = λ u a b. elim (cases_lt t u) [ inl lt ↦ more.before u lt b | inr le ↦ let e : u ≡ t = omega arith in rw e no-t ];
            here = λ a. more.here (omega arith);
          })
    ]

pub least_has : (p : ℕ → Bool) → Least p (least_tick p)
unfolding least_tick
least_has p =
    let has = least_from_has p 300000 1 in
    record { low = has.low; high = omega (arith, has.high); before = has.before; here = λ a. has.here (omega arith) }

least_from_same : (p q : ℕ → Bool) (n t : ℕ) → ((u : ℕ) → t ≤ u → u < n + t → p u ≡ q u) → least_from p n t ≡ least_from q n t
unfolding least_from
least_from_same p q zero t same = refl
least_from_same p q (suc n) t same =
    let e : p t ≡ q t = same t (omega arith) (omega arith) in
    let r : least_from p n (suc t) ≡ least_from q n (suc t) = least_from_same p q n (suc t) (λ u a h. same u (omega arith) (omega arith)) in
    rw (e, r)

-- a search sees the ticks alone
pub least_same : (p q : ℕ → Bool) → ((u : ℕ) → 1 ≤ u → u ≤ 300000 → p u ≡ q u) → least_tick p ≡ least_tick q
unfolding least_tick
least_same p q same = least_from_same p q 300000 1 (λ u a h. same u a (omega arith))
