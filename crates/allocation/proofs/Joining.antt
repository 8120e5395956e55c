-- Kinds in one ranking: its laws, and that serving kind after kind is the one share rule over all claims.
use Rattle.std.proofs.Common.{◌≡◌, ℕ, ◌+◌, ◌-◌, min, Bool, true, false, cond, not, ◌⊎◌, List, ◌++◌, map, sum_by, sym, refl, ap, ◌∙◌, inl, inr, arith}
use Rattle.std.proofs.lemmas.List.Sums.{sum_by-append}
use Rattle.std.proofs.lemmas.List.{map-append}
use Rattle.std.proofs.lemmas.Bool.{true≢false}
use Rattle.allocation.specs.Rankings.{RankLaws}
use Rattle.allocation.specs.Shares.{ahead, share_of, shares_of}
use Rattle.allocation.specs.Joint.{Kind, and_then, either, kind_before, joint}
use Rattle.allocation.specs.Kinds.{SharedKind, ServedInTurn, KindsShared}
use Rattle.allocation.proofs.Summing.{sum_over, sum_zero, map_over}
use Rattle.allocation.proofs.Sharing.{shared}

pub by_kind : {A B : Type 0} {sa : A → ℕ} {sb : B → ℕ} {p : A → A → Bool} {q : B → B → Bool} → RankLaws sa p → RankLaws sb q → RankLaws (either sa sb) (kind_before p q)
by_kind {A} {B} {sa} {sb} {p} {q} first second = record { irreflexive = never; transitive = carries; decided = one }
  where
    never : (a : A ⊎ B) → kind_before p q a a ≡ false
    never (inl a) = first.irreflexive a
    never (inr b) = second.irreflexive b

    carries : (a b c : A ⊎ B) → kind_before p q a b ≡ true → kind_before p q b c ≡ true → kind_before p q a c ≡ true
    carries (inl a) (inl b) (inl c) h k = first.transitive a b c h k
    carries (inl a) (inl b) (inr c) h k = refl
    carries (inl a) (inr b) (inl c) h k = absurd (true≢false (sym k))
    carries (inl a) (inr b) (inr c) h k = refl
    carries (inr a) (inl b) c h k = absurd (true≢false (sym h))
    carries (inr a) (inr b) (inl c) h k = absurd (true≢false (sym k))
    carries (inr a) (inr b) (inr c) h k = second.transitive a b c h k

    one : (a b : A ⊎ B) → (either sa sb a ≡ either sa sb b → ⊥) → kind_before p q a b ≡ not (kind_before p q b a)
    one (inl a) (inl b) ne = first.decided a b ne
    one (inl a) (inr b) ne = refl
    one (inr a) (inl b) ne = refl
    one (inr a) (inr b) ne = second.decided a b ne

sum_joint : {A B : Type 0} (f : A ⊎ B → ℕ) (xs : List A) (ys : List B) → sum_by f (joint xs ys) ≡ sum_by (λ x. f (inl x)) xs + sum_by (λ y. f (inr y)) ys
sum_joint f xs ys = omega (arith, sum_by-append f (map inl xs) (map inr ys), sum_over f inl xs, sum_over f inr ys)

module _ {A B : Type 0} (a : Kind A) (b : Kind B) (volume : ℕ) (xs : List A) (ys : List B) where
  abbrev one_ahead : A ⊎ B → ℕ
  one_ahead = ahead (and_then a b).asks (and_then a b).before (joint xs ys)

  ahead_first : (x : A) → one_ahead (inl x) ≡ ahead a.asks a.before xs x
  ahead_first x = sum_joint (λ y. cond ((and_then a b).before y (inl x)) ((and_then a b).asks y) 0) xs ys ∙ omega (arith, sum_zero ys)

  ahead_second : (y : B) → one_ahead (inr y) ≡ sum_by a.asks xs + ahead b.asks b.before ys y
  ahead_second y = sum_joint (λ z. cond ((and_then a b).before z (inr y)) ((and_then a b).asks z) 0) xs ys

  -- the first kind is served as if alone, the second out of what is left
  pub staged : shares_of (and_then a b).asks (and_then a b).before volume (joint xs ys) ≡ shares_of a.asks a.before volume xs ++ shares_of b.asks b.before (volume - sum_by a.asks xs) ys
  unfolding shares_of
  staged =
      let share = share_of (and_then a b).asks (and_then a b).before volume (joint xs ys) in
      let to-first = share_of a.asks a.before volume xs in
      let to-second = share_of b.asks b.before (volume - sum_by a.asks xs) ys in
      let one : map share (map inl xs) ≡ map to-first xs = map_over share to-first inl (λ x. ap (λ s. min (a.asks x) (volume - s)) (ahead_first x)) xs in
      let two : map share (map inr ys) ≡ map to-second ys = map_over share to-second inr (λ y. omega (arith, ahead_second y)) ys in
      map-append share (map inl xs) (map inr ys) ∙ ap (λ l. l ++ map share (map inr ys)) one ∙ ap (λ l. map to-first xs ++ l) two

abbrev Lawful : {C : Type 0} → Kind C → Type 0
Lawful k = RankLaws k.stamp k.before

by_rule : {C : Type 0} (k : Kind C) → Lawful k → (volume : ℕ) (xs : List C) (shares : List ℕ) → shares ≡ shares_of k.asks k.before volume xs → SharedKind k volume xs shares
by_rule k laws = shared k.asks k.stamp k.before laws

module _ {A B C : Type 0} (a : Kind A) (b : Kind B) (c : Kind C) (volume : ℕ) (xs : List A) (ys : List B) (zs : List C) where
  abbrev all : Kind (A ⊎ (B ⊎ C))
  all = and_then a (and_then b c)

  one_rule : (to-xs to-ys to-zs : List ℕ) → ServedInTurn a b c volume xs ys zs to-xs to-ys to-zs → to-xs ++ (to-ys ++ to-zs) ≡ shares_of all.asks all.before volume (joint xs (joint ys zs))
  one_rule to-xs to-ys to-zs turn =
      let outer = staged a (and_then b c) volume xs (joint ys zs) in
      let inner = staged b c (volume - sum_by a.asks xs) ys zs in
      let is-xs = turn.first in
      let is-ys = turn.second in
      let is-zs = turn.third in
      cc

  pub kinds_shared : Lawful a → Lawful b → Lawful c → (to-xs to-ys to-zs : List ℕ) → ServedInTurn a b c volume xs ys zs to-xs to-ys to-zs → KindsShared a b c volume xs ys zs to-xs to-ys to-zs
  kinds_shared la lb lc to-xs to-ys to-zs turn =
      let law : SharedKind all volume (joint xs (joint ys zs)) (to-xs ++ (to-ys ++ to-zs)) = by_rule all (by_kind la (by_kind lb lc)) volume _ _ (one_rule to-xs to-ys to-zs turn) in
      let to-first = by_rule a la volume xs to-xs turn.first in
      let to-second = by_rule b lb (volume - sum_by a.asks xs) ys to-ys turn.second in
      let to-third = by_rule c lc (volume - sum_by a.asks xs - sum_by b.asks ys) zs to-zs turn.third in
      record {
        together = law;
        balance = λ d h. omega (arith, law.whole d, sum_by-append (λ x. x) to-xs (to-ys ++ to-zs), sum_by-append (λ x. x) to-ys to-zs, sum_joint all.asks xs (joint ys zs), sum_joint (and_then b c).asks ys zs);
        fits = to-first.enough;
        full = λ h. (to-first.enough (omega arith), to-second.enough (omega arith), to-third.enough (omega arith));
        in_turn = turn;
      }
