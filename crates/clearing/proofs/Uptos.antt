-- The steps of `upto` and `any_upto`, and a sum over a list as one below its length.
use Rattle.std.proofs.Common.{◌≡◌, ℕ, zero, suc, ◌+◌, ◌<◌, ◌≤◌, Bool, true, false, ◌||◌, List, length, get_or, take, sum_by, sym, refl, ap, ◌∙◌, inl, inr, add-one, arith}
use Rattle.std.proofs.lemmas.List.Sums.{sum_by_more}
use Rattle.std.proofs.lemmas.Bool.{cases_lt, or_left, or_right}
use Rattle.clearing.specs.Upto.{upto, any_upto}

pub upto_none : (f : ℕ → ℕ) → upto f 0 ≡ 0
unfolding upto
upto_none f = refl

pub upto_more : (f : ℕ → ℕ) (n : ℕ) → upto f (n + 1) ≡ upto f n + f n
unfolding upto
upto_more f n = rw add-one

pub any_none : (p : ℕ → Bool) → any_upto p 0 ≡ false
unfolding any_upto
any_none p = refl

pub any_more : (p : ℕ → Bool) (n : ℕ) → any_upto p (n + 1) ≡ (any_upto p n || p n)
unfolding any_upto
any_more p n = rw add-one

pub any_from : (p : ℕ → Bool) (n k : ℕ) → k < n → p k ≡ true → any_upto p n ≡ true
unfolding any_upto
any_from p zero k h e = absurd (omega arith)
any_from p (suc n) k h e =
    elim (cases_lt k n) [
      | inl l ↦ or_left (any_upto p n) (p n) (any_from p n k l e)
      | inr g ↦ or_right (any_upto p n) (p n) (let s : k ≡ n = omega arith in ap p (sym s) ∙ e)
    ]

pub upto_same : (f g : ℕ → ℕ) (n : ℕ) → ((k : ℕ) → k < n → f k ≡ g k) → upto f n ≡ upto g n
unfolding upto
upto_same f g zero same = refl
upto_same f g (suc n) same = omega (arith, same n (omega arith), upto_same f g n (λ k l. same k (omega arith)))

pub sum_upto : {X : Type 0} (f : X → ℕ) (d : X) (xs : List X) (n : ℕ) → n ≤ length xs → upto (λ k. f (get_or xs k d)) n ≡ sum_by f (take n xs)
unfolding upto
sum_upto f d xs zero h = refl
sum_upto f d xs (suc n) h =
    let one : n + 1 ≡ suc n = omega arith in
    let more = sum_by_more f xs n d (omega arith) in
    omega (arith, sum_upto f d xs n (omega arith), more, ap (λ m. sum_by f (take m xs)) one)
