-- What the share rule comes to, for every ranking that keeps the laws.
use Rattle.std.proofs.Common.{◌≡◌, ℕ, zero, suc, ◌+◌, ◌-◌, ◌<◌, ◌≤◌, min, Bool, true, false, cond, ltb, List, [], ◌∷◌, length, get_or, sum_by, sum, filter, sym, refl, ap, ◌∙◌, arith}
use Rattle.std.specs.List.{ContainsAt as Has, AllByRecursion as All}
use Rattle.std.proofs.lemmas.Bool.{true≢false, not-false, ltb-true, ltb-false}
use Rattle.std.proofs.lemmas.List.Sums.{sum_by-cons, sum-map}
use Rattle.std.proofs.lemmas.List.{get_or-map}
use Rattle.std.proofs.ByRecursion.{All-weaker, has_get_or}
use Rattle.allocation.specs.Rankings.{RankLaws}
use Rattle.allocation.specs.Shares.{ahead, share_of, shares_of, Distinct, Shared}
use Rattle.allocation.proofs.Summing.{sum_same, sum_gap, sum_kept, kept_all, map_same}

counted_less : (p q : Bool) (n : ℕ) → (p ≡ true → q ≡ true) → cond p n 0 ≤ cond q n 0
counted_less true true n h = omega arith
counted_less true false n h = absurd (true≢false (sym (h refl)))
counted_less false q n h = omega arith

counted_le : (p : Bool) (n : ℕ) → cond p n 0 ≤ n
counted_le true n = omega arith
counted_le false n = omega arith

all_of : {C : Type 0} (P : C → Type 0) → ((x : C) → P x) → (xs : List C) → All P xs
all_of P h [] = tt
all_of P h (x ∷ xs) = (h x, all_of P h xs)

-- no two claims of a list have one stamp
abbrev Apart : {C : Type 0} → (C → ℕ) → List C → Type 0
Apart stamp [] = Unit {0}
Apart stamp (x ∷ xs) = All (λ y. stamp x ≡ stamp y → ⊥) xs × Apart stamp xs

from_false : (r : Bool) → (r ≡ true → true ≡ false) → r ≡ false
from_false true h = h refl
from_false false h = refl

module _ {C : Type 0} (asks stamp : C → ℕ) (before : C → C → Bool) (laws : RankLaws stamp before) where
  never_back : (a b : C) → before a b ≡ true → before b a ≡ false
  never_back a b h = from_false (before b a) (λ k. sym (laws.transitive a b a h k) ∙ laws.irreflexive a)

  -- the asks ahead of a higher claim, with its own, are ahead of a lower one
  pub ahead_gap : (xs : List C) (x y : C) → Has xs y → before y x ≡ true → ahead asks before xs y + asks y ≤ ahead asks before xs x
  ahead_gap xs x y has h =
      sum_gap (λ z. cond (before z y) (asks z) 0) (λ z. cond (before z x) (asks z) 0) (asks y) y
      (λ z. counted_less (before z y) (before z x) (asks z) (λ k. laws.transitive z y x k h))
      (rw (laws.irreflexive y, h) (omega arith))
      xs has.0 has.1 has.2

  pub served_in_order : (volume : ℕ) (xs : List C) (x y : C) → Has xs y → before y x ≡ true → 0 < share_of asks before volume xs x → share_of asks before volume xs y ≡ asks y
  served_in_order volume xs x y has h some = omega (arith, ahead_gap xs x y has h)

  -- a list as its lowest claim and the rest, by what they add up to
  record Lowest (xs : List C) : Type 1 where
    m : C
    rest : List C
    long : length xs ≡ suc (length rest)
    sums : (f : C → ℕ) → sum_by f xs ≡ f m + sum_by f rest
    alls : (P : C → Type 0) → All P xs → P m × All P rest
    lower : All (λ y. before y m ≡ true) rest
    apart : Apart stamp (m ∷ rest)

  place : (x : C) (ys : List C) → All (λ y. stamp x ≡ stamp y → ⊥) ys → (l : Lowest ys) (r : Bool) → before x l.m ≡ r → Lowest (x ∷ ys)
  place x ys apart-x l true e = record {
    m = l.m;
    rest = x ∷ l.rest;
    long = ap suc l.long;
    sums = λ f. omega (arith, sum_by-cons f x ys, l.sums f, sum_by-cons f x l.rest);
    alls = λ P h. ((l.alls P h.1).0, (h.0, (l.alls P h.1).1));
    lower = (e, l.lower);
    apart = (((λ k. (l.alls _ apart-x).0 (sym k)), l.apart.0), ((l.alls _ apart-x).1, l.apart.1));
  }
  place x ys apart-x l false e =
      let under : before l.m x ≡ true = not-false (before l.m x) (sym (laws.decided x l.m (l.alls _ apart-x).0) ∙ e) in
      record {
        m = x;
        rest = l.m ∷ l.rest;
        long = ap suc l.long;
        sums = λ f. omega (arith, sum_by-cons f x ys, l.sums f, sum_by-cons f l.m l.rest);
        alls = λ P h. (h.0, l.alls P h.1);
        lower = (under, All-weaker (λ y. before y l.m ≡ true) (λ y. before y x ≡ true) (λ y k. laws.transitive y l.m x k under) l.rest l.lower);
        apart = (l.alls _ apart-x, l.apart);
      }

  lowest : (x : C) (ys : List C) → Apart stamp (x ∷ ys) → Lowest (x ∷ ys)
  lowest x [] d = record { m = x; rest = []; long = refl; sums = λ f. sum_by-cons f x []; alls = λ P h. h; lower = tt; apart = d }
  lowest x (y ∷ ys) d = let l = lowest y ys d.1 in place x (y ∷ ys) d.0 l (before x l.m) refl

  all_counted : (m : C) (ys : List C) → All (λ y. before y m ≡ true) ys → ahead asks before ys m ≡ sum_by asks ys
  all_counted m ys h = sum_same _ asks ys (All-weaker (λ y. before y m ≡ true) (λ y. cond (before y m) (asks y) 0 ≡ asks y) (λ y k. ap (λ r. cond r (asks y) 0) k) ys h)

  pub all_shared : (volume n : ℕ) (xs : List C) → length xs ≡ n → Apart stamp xs → sum_by (share_of asks before volume xs) xs ≡ min volume (sum_by asks xs)
  all_shared volume n [] e d = omega arith
  all_shared volume zero (x ∷ xs) e d = omega arith
  all_shared volume (suc n) (x ∷ xs) e d =
      let l = lowest x xs d in
      let rest_sum = all_shared volume n l.rest (omega (arith, l.long)) l.apart.1 in
      let top : ahead asks before (x ∷ xs) l.m ≡ sum_by asks l.rest =
      l.sums (λ y. cond (before y l.m) (asks y) 0) ∙ omega (arith, ap (λ r. cond r (asks l.m) 0) (laws.irreflexive l.m), all_counted l.m l.rest l.lower) in
      let others : sum_by (share_of asks before volume (x ∷ xs)) l.rest ≡ sum_by (share_of asks before volume l.rest) l.rest =
      sum_same _ _ l.rest (All-weaker (λ y. before y l.m ≡ true) (λ y. share_of asks before volume (x ∷ xs) y ≡ share_of asks before volume l.rest y)
      (λ y k. ap (λ s. min (asks y) (volume - s)) (l.sums (λ z. cond (before z y) (asks z) 0) ∙ omega (arith, ap (λ r. cond r (asks l.m) 0) (never_back y l.m k)))) l.rest l.lower) in
      omega (arith, l.sums (share_of asks before volume (x ∷ xs)), l.sums asks, ap (λ s. min (asks l.m) (volume - s)) top)

  abbrev asking : C → Bool
  asking x = ltb 0 (asks x)

  none_asked : (x : C) → asking x ≡ false → asks x ≡ 0
  none_asked x e = omega (arith, ltb-false 0 (asks x) e)

  kept_apart : (xs : List C) → Distinct asks stamp xs → Apart stamp (filter asking xs)
  kept_apart [] d = tt
  kept_apart (x ∷ xs) d = go (kept_apart xs (λ i j e l m. d (suc i) (suc j) e (omega arith) (omega arith))) (asking x) refl
    where
      go : Apart stamp (filter asking xs) → (r : Bool) → asking x ≡ r → Apart stamp (cond r (x ∷ filter asking xs) (filter asking xs))
      go rest true e = (kept_all asking (λ y. stamp x ≡ stamp y → ⊥) xs (λ j f l k. d zero (suc j) f (omega arith) (omega arith) (ltb-true 0 (asks x) e) (ltb-true 0 (asks (get_or xs j f)) k)), rest)
      go rest false e = rest

  ahead_kept : (xs : List C) (x : C) → ahead asks before (filter asking xs) x ≡ ahead asks before xs x
  ahead_kept xs x = sum_kept asking (λ y. cond (before y x) (asks y) 0) (λ y e. omega (arith, none_asked y e, counted_le (before y x) (asks y))) xs

  pub whole_shared : (volume : ℕ) (xs : List C) → Distinct asks stamp xs → sum_by (share_of asks before volume xs) xs ≡ min volume (sum_by asks xs)
  whole_shared volume xs d =
      let ys = filter asking xs in
      let part : sum_by (share_of asks before volume ys) ys ≡ min volume (sum_by asks ys) = all_shared volume (length ys) ys refl (kept_apart xs d) in
      let less : sum_by (share_of asks before volume ys) ys ≡ sum_by (share_of asks before volume ys) xs = sum_kept asking (share_of asks before volume ys) (λ x e. omega (arith, none_asked x e)) xs in
      let same : sum_by (share_of asks before volume ys) xs ≡ sum_by (share_of asks before volume xs) xs =
      sum_same _ _ xs (all_of (λ x. share_of asks before volume ys x ≡ share_of asks before volume xs x) (λ x. ap (λ s. min (asks x) (volume - s)) (ahead_kept xs x)) xs) in
      let asked : sum_by asks ys ≡ sum_by asks xs = sum_kept asking asks none_asked xs in
      omega arith

  pub all_served : (volume : ℕ) (xs : List C) → sum_by asks xs ≤ volume → (x : C) → Has xs x → share_of asks before volume xs x ≡ asks x
  all_served volume xs h x has =
      let gap : ahead asks before xs x + asks x ≤ sum_by asks xs =
      sum_gap (λ z. cond (before z x) (asks z) 0) asks (asks x) x (λ z. counted_le (before z x) (asks z)) (rw (laws.irreflexive x) (omega arith)) xs has.0 has.1 has.2 in
      omega arith

  pub shared : (volume : ℕ) (xs : List C) (shares : List ℕ) → shares ≡ shares_of asks before volume xs → Shared asks stamp before volume xs shares
  unfolding shares_of
  shared volume xs shares e =
      let share = share_of asks before volume xs in
      let at : (i : ℕ) (d : C) → i < length xs → get_or shares i 0 ≡ share (get_or xs i d) = λ i d h. ap (λ l. get_or l i 0) e ∙ get_or-map share xs i d 0 h in
      record {
        each = e;
        whole = λ d. ap sum e ∙ sum-map _ xs ∙ whole_shared volume xs d;
        order = λ i j d hi hj first some. at j d hj ∙ served_in_order volume xs (get_or xs i d) (get_or xs j d) (has_get_or xs j d hj) first (omega (arith, at i d hi));
        enough = λ h. e ∙ map_same share asks xs (all_served volume xs h);
      }
