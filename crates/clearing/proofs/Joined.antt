-- Three kinds in one ranking of rows, each row with one claim at most: the shares are those of the kinds served in turn.
use Rattle.std.proofs.Common.{◌≡◌, ℕ, ◌+◌, ◌-◌, ◌≤◌, Bool, cond, ◌⊎◌, List, [], ◌∷◌, map, is_some, Some, None, sum_by, Option, sym, refl, ap, ◌∙◌, inl, inr, arith}
use mathlib.Core.Path.{fun_ext}
use Rattle.std.proofs.lemmas.List.Sums.{sum_by-cons}
use Rattle.allocation.specs.Joint.{Kind, and_then}
use Rattle.allocation.specs.Shares.{ahead, share_of}
use Rattle.allocation.proofs.Summing.{sum_over}
use Rattle.clearing.specs.Claims.{place_kind, claim_out}
use Rattle.clearing.specs.Sharing.{largest}

abbrev pub first_of : {A B C : Type 0} → Option (A ⊎ (B ⊎ C)) → Option A
first_of None = None
first_of (Some (inl a)) = Some a
first_of (Some (inr x)) = None

abbrev pub second_of : {A B C : Type 0} → Option (A ⊎ (B ⊎ C)) → Option B
second_of None = None
second_of (Some (inl a)) = None
second_of (Some (inr (inl b))) = Some b
second_of (Some (inr (inr c))) = None

abbrev pub third_of : {A B C : Type 0} → Option (A ⊎ (B ⊎ C)) → Option C
third_of None = None
third_of (Some (inl a)) = None
third_of (Some (inr (inl b))) = None
third_of (Some (inr (inr c))) = Some c

-- one claim at most
abbrev one_if : Bool → ℕ
one_if f = cond f 1 0

abbrev pub AtMostOne : {A B C : Type 0} → Option A → Option B → Option C → Type 0
AtMostOne x y z = one_if (is_some x) + one_if (is_some y) + one_if (is_some z) ≤ 1

pub first_out : {A B C : Type 0} (x : Option A) (y : Option B) (z : Option C) → first_of (claim_out x y z) ≡ x
first_out (Some a) y z = refl
first_out None (Some b) z = refl
first_out None None (Some c) = refl
first_out None None None = refl

pub second_out : {A B C : Type 0} (x : Option A) (y : Option B) (z : Option C) → AtMostOne x y z → second_of (claim_out x y z) ≡ y
second_out (Some a) None z h = refl
second_out (Some a) (Some b) None h = absurd (omega arith)
second_out (Some a) (Some b) (Some c) h = absurd (omega arith)
second_out None (Some b) z h = refl
second_out None None (Some c) h = refl
second_out None None None h = refl

pub third_out : {A B C : Type 0} (x : Option A) (y : Option B) (z : Option C) → AtMostOne x y z → third_of (claim_out x y z) ≡ z
third_out (Some a) None None h = refl
third_out (Some a) (Some b) None h = refl
third_out (Some a) None (Some c) h = absurd (omega arith)
third_out (Some a) (Some b) (Some c) h = absurd (omega arith)
third_out None (Some b) None h = refl
third_out None (Some b) (Some c) h = absurd (omega arith)
third_out None None (Some c) h = refl
third_out None None None h = refl

sum_both : {X : Type 0} (f g : X → ℕ) (xs : List X) → sum_by (λ x. f x + g x) xs ≡ sum_by f xs + sum_by g xs
sum_both f g [] = refl
sum_both f g (x ∷ xs) = omega (arith, sum_by-cons (λ x. f x + g x) x xs, sum_by-cons f x xs, sum_by-cons g x xs, sum_both f g xs)

sum_as : {X : Type 0} (f g : X → ℕ) → ((x : X) → f x ≡ g x) → (xs : List X) → sum_by f xs ≡ sum_by g xs
sum_as f g same xs = ap (λ p. sum_by p xs) (fun_ext same)

module _ {A B C : Type 0} (a : Kind A) (b : Kind B) (c : Kind C) where
  abbrev row : Kind (Option (A ⊎ (B ⊎ C)))
  row = place_kind (and_then a (and_then b c))

  pub asks_out : (x : Option A) (y : Option B) (z : Option C) → AtMostOne x y z → row.asks (claim_out x y z) ≡ (place_kind a).asks x + ((place_kind b).asks y + (place_kind c).asks z)
  asks_out (Some u) None None h = omega arith
  asks_out (Some u) (Some v) None h = absurd (omega arith)
  asks_out (Some u) (Some v) (Some w) h = absurd (omega arith)
  asks_out (Some u) None (Some w) h = absurd (omega arith)
  asks_out None (Some v) None h = omega arith
  asks_out None (Some v) (Some w) h = absurd (omega arith)
  asks_out None None (Some w) h = omega arith
  asks_out None None None h = omega arith

  ahead_first : (cs : List (Option (A ⊎ (B ⊎ C)))) (x : A) → ahead row.asks row.before cs (Some (inl x)) ≡ ahead (place_kind a).asks (place_kind a).before (map first_of cs) (Some x)
  ahead_first cs x = sum_as _ _ each cs ∙ sym (sum_over (λ y. cond ((place_kind a).before y (Some x)) ((place_kind a).asks y) 0) first_of cs)
    where
      each : (y : Option (A ⊎ (B ⊎ C))) → cond (row.before y (Some (inl x))) (row.asks y) 0 ≡ cond ((place_kind a).before (first_of y) (Some x)) ((place_kind a).asks (first_of y)) 0
      each None = refl
      each (Some (inl u)) = refl
      each (Some (inr (inl v))) = refl
      each (Some (inr (inr w))) = refl

  ahead_second : (cs : List (Option (A ⊎ (B ⊎ C)))) (x : B) → ahead row.asks row.before cs (Some (inr (inl x))) ≡ sum_by (place_kind a).asks (map first_of cs) + ahead (place_kind b).asks (place_kind b).before (map second_of cs) (Some x)
  ahead_second cs x =
      let f : Option (A ⊎ (B ⊎ C)) → ℕ = λ y. (place_kind a).asks (first_of y) in
      let g : Option (A ⊎ (B ⊎ C)) → ℕ = λ y. cond ((place_kind b).before (second_of y) (Some x)) ((place_kind b).asks (second_of y)) 0 in
      sum_as _ (λ y. f y + g y) each cs ∙ omega (arith, sum_both f g cs, sum_over (place_kind a).asks first_of cs, sum_over (λ y. cond ((place_kind b).before y (Some x)) ((place_kind b).asks y) 0) second_of cs)
    where
      each : (y : Option (A ⊎ (B ⊎ C))) → cond (row.before y (Some (inr (inl x)))) (row.asks y) 0 ≡ (place_kind a).asks (first_of y) + cond ((place_kind b).before (second_of y) (Some x)) ((place_kind b).asks (second_of y)) 0
      each None = refl
      each (Some (inl u)) = omega arith
      each (Some (inr (inl v))) = omega arith
      each (Some (inr (inr w))) = refl

  ahead_third : (cs : List (Option (A ⊎ (B ⊎ C)))) (x : C) → ahead row.asks row.before cs (Some (inr (inr x))) ≡ sum_by (place_kind a).asks (map first_of cs) + (sum_by (place_kind b).asks (map second_of cs) + ahead (place_kind c).asks (place_kind c).before (map third_of cs) (Some x))
  ahead_third cs x =
      let f : Option (A ⊎ (B ⊎ C)) → ℕ = λ y. (place_kind a).asks (first_of y) in
      let g : Option (A ⊎ (B ⊎ C)) → ℕ = λ y. (place_kind b).asks (second_of y) in
      let k : Option (A ⊎ (B ⊎ C)) → ℕ = λ y. cond ((place_kind c).before (third_of y) (Some x)) ((place_kind c).asks (third_of y)) 0 in
      sum_as _ (λ y. f y + (g y + k y)) each cs ∙ omega (arith, sum_both f (λ y. g y + k y) cs, sum_both g k cs, sum_over (place_kind a).asks first_of cs, sum_over (place_kind b).asks second_of cs, sum_over (λ y. cond ((place_kind c).before y (Some x)) ((place_kind c).asks y) 0) third_of cs)
    where
      each : (y : Option (A ⊎ (B ⊎ C))) → cond (row.before y (Some (inr (inr x)))) (row.asks y) 0 ≡ (place_kind a).asks (first_of y) + ((place_kind b).asks (second_of y) + cond ((place_kind c).before (third_of y) (Some x)) ((place_kind c).asks (third_of y)) 0)
      each None = refl
      each (Some (inl u)) = omega arith
      each (Some (inr (inl v))) = omega arith
      each (Some (inr (inr w))) = omega arith

  module _ (volume : ℕ) (cs : List (Option (A ⊎ (B ⊎ C)))) where
    abbrev sa : ℕ
    sa = sum_by (place_kind a).asks (map first_of cs)

    abbrev sb : ℕ
    sb = sum_by (place_kind b).asks (map second_of cs)

    abbrev pub in_turn : Option (A ⊎ (B ⊎ C)) → ℕ
    in_turn y =
        largest (share_of (place_kind a).asks (place_kind a).before volume (map first_of cs) (first_of y))
        (share_of (place_kind b).asks (place_kind b).before (volume - sa) (map second_of cs) (second_of y))
        (share_of (place_kind c).asks (place_kind c).before (volume - sa - sb) (map third_of cs) (third_of y))

    pub row_share : (y : Option (A ⊎ (B ⊎ C))) → share_of row.asks row.before volume cs y ≡ in_turn y
    row_share None = omega arith
    row_share (Some (inl x)) = omega (arith, ahead_first cs x)
    row_share (Some (inr (inl x))) = omega (arith, ahead_second cs x)
    row_share (Some (inr (inr x))) = omega (arith, ahead_third cs x)
