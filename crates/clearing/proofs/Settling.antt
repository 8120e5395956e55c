-- What the rounds come to.
use Rattle.std.proofs.Common.{◌≡◌, ℕ, zero, suc, ◌+◌, ◌<◌, ◌≤◌, Bool, true, false, cond, leb, ◌⊎◌, List, [], ◌∷◌, length, get_or, set, replicate, is_some, Some, None, count_by, Option, sym, refl, ap, ◌∙◌, subst, inl, inr, arith}
use Rattle.std.proofs.lemmas.Bool.{cases_lt, cases_eq, le-leb, lt-leb, leb-true}
use Rattle.std.proofs.lemmas.List.Sums.{get_or-le-sum_by, sum_by-set, sum_by-cons}
use Rattle.std.proofs.lemmas.List.{length-replicate, length-set, length-map, get_or-map, map-set, set-get_or, get_or-set_same, get_or-set_other, ext_get_or}
use Rattle.clearing.specs.declared.marks.Cause.{Cause}
use Rattle.clearing.specs.declared.marks.Mark.{Mark}
use Rattle.clearing.specs.declared.marks.Mark.TheVariants.{Kept, Dropped}
use Rattle.clearing.specs.declared.blocks.Block.{Block}
use Rattle.clearing.specs.Verdicts.{verdict_of, loss, short, verdict}
use Rattle.allocation.specs.Rankings.{RankLaws}
use Rattle.allocation.specs.Places.{place_number, place_before}
use Rattle.allocation.specs.Precedence.{block_before}
use Rattle.allocation.specs.declared.block.BlockClaim.{BlockClaim}
use Rattle.allocation.specs.Layers.{by_key, by_stamp, by_place}
use Rattle.clearing.specs.declared.results.HourResult.{HourResult}
use Rattle.clearing.specs.Rounds.{claim_at, blocks_before, next_drop, round_verdict, rounds_of, lower_of, lowest_upto, rounds_from, outcome, stood, stood_in, is_dropped, Settled}

-- the lowest ranked of the failing ones below n
abbrev pub Low : (ℕ → Option Cause) → (ℕ → ℕ → Bool) → ℕ → Option (ℕ × Cause) → Type 0
Low v b n None = (j : ℕ) → j < n → v j ≡ None
Low v b n (Some w) = (w.0 < n) × (v w.0 ≡ Some w.1) × ((j : ℕ) (c : Cause) → j < n → v j ≡ Some c → b w.0 j ≡ false)

false_unless : (r : Bool) → (r ≡ true → true ≡ false) → r ≡ false
false_unless true h = h refl
false_unless false h = refl

not_some : (o : Option Cause) (c : Cause) → o ≡ None → o ≡ Some c → true ≡ false
not_some o c p q = cc

module _ (v : ℕ → Option Cause) (b : ℕ → ℕ → Bool) (same : (k : ℕ) → b k k ≡ false) (chain : (i j k : ℕ) → b i j ≡ true → b j k ≡ true → b i k ≡ true) where
  low_step : (n : ℕ) (w : ℕ × Cause) (c : Cause) (r : Bool) → b w.0 n ≡ r → v n ≡ Some c → Low v b n (Some w) → Low v b (suc n) (cond r (Some (n, c)) (Some w))
  low_step n w c true e h low = (
    omega arith,
    h,
    λ j d l k. elim (cases_lt j n) [
      | inl s ↦ false_unless (b n j) (λ t. sym (chain w.0 n j e t) ∙ low.2 j d s k)
      | inr g ↦ let z : j ≡ n = omega arith in ap (b n) z ∙ same n
    ],
  )
  low_step n w c false e h low = (
    omega (arith, low.0),
    low.1,
    λ j d l k. elim (cases_lt j n) [
      | inl s ↦ low.2 j d s k
      | inr g ↦ let z : j ≡ n = omega arith in ap (b w.0) z ∙ e
    ],
  )

  low_more : (n : ℕ) (o : Option (ℕ × Cause)) (x : Option Cause) → v n ≡ x → Low v b n o → Low v b (suc n) (lower_of b o n x)
  low_more n None None e low = λ j l. elim (cases_lt j n) [ inl s ↦ low j s | inr g ↦ let z : j ≡ n = omega arith in ap v z ∙ e ]
  low_more n (Some w) None e low = (
    omega (arith, low.0),
    low.1,
    λ j d l k. elim (cases_lt j n) [
      | inl s ↦ low.2 j d s k
      | inr g ↦ let z : j ≡ n = omega arith in false_unless (b w.0 j) (λ _. not_some (v n) d e (ap v (sym z) ∙ k))
    ],
  )
  low_more n None (Some c) e low = (
    omega arith,
    e,
    λ j d l k. elim (cases_lt j n) [
      | inl s ↦ false_unless (b n j) (λ _. not_some (v j) d (low j s) k)
      | inr g ↦ let z : j ≡ n = omega arith in ap (b n) z ∙ same n
    ],
  )
  low_more n (Some w) (Some c) e low = low_step n w c (b w.0 n) refl e low

  pub lowest_low : (n : ℕ) → Low v b n (lowest_upto v b n)
  unfolding lowest_upto
  lowest_low zero = λ j l. absurd (omega arith)
  lowest_low (suc n) = low_more n (lowest_upto v b n) (v n) refl (lowest_low n)

-- the recursion, a step at a time
pub rounds_stop : (next : List Bool → Option (ℕ × Cause)) (n r : ℕ) (fs : List Bool) (ms : List Mark) → next fs ≡ None → rounds_from next n r fs ms ≡ outcome fs ms r
unfolding rounds_from
rounds_stop next zero r fs ms e = refl
rounds_stop next (suc n) r fs ms e = rw (e, rounds_from)

pub rounds_step : (next : List Bool → Option (ℕ × Cause)) (n r : ℕ) (fs : List Bool) (ms : List Mark) (w : ℕ × Cause) → next fs ≡ Some w → rounds_from next (suc n) r fs ms ≡ rounds_from next n (r + 1) (set fs w.0 false) (set ms w.0 (Dropped r w.1))
unfolding rounds_from
rounds_step next n r fs ms w e = rw (e, rounds_from)

abbrev one_if : Bool → ℕ
one_if f = cond f 1 0

abbrev pub count : List Bool → ℕ
count fs = count_by (λ f. f) fs

-- a standing block is one of them
pub count_some : (fs : List Bool) (i : ℕ) → i < length fs → get_or fs i false ≡ true → 0 < count fs
count_some fs i h e = omega (arith, get_or-le-sum_by (λ f. cond f 1 0) fs i false h, ap one_if e)

pub count_less : (fs : List Bool) (i : ℕ) → i < length fs → get_or fs i false ≡ true → count fs ≡ suc (count (set fs i false))
count_less fs i h e = omega (arith, sum_by-set (λ f. cond f 1 0) fs i false false h, ap one_if e)

pub count_all : (n : ℕ) → count (replicate n true) ≡ n
count_all zero = refl
count_all (suc n) = sum_by-cons (λ f. cond f 1 0) true (replicate n true) ∙ omega (arith, count_all n)

-- the blocks that stood, when one is marked in round r

standing_kept : (r : ℕ) (m : Mark) → ((q : ℕ) (c : Cause) → m ≡ Dropped q c → q < r) → stood_in r m ≡ true → m ≡ Kept
standing_kept r Kept early h = refl
standing_kept r (Dropped q c) early h = absurd (omega (arith, leb-true r q h, early q c refl))

stood_on : (r : ℕ) (m : Mark) → ((q : ℕ) (c : Cause) → m ≡ Dropped q c → q < r) → stood_in (r + 1) m ≡ stood_in r m
stood_on r Kept early = refl
stood_on r (Dropped q c) early = let l : q < r = early q c refl in lt-leb (r + 1) q (omega arith) ∙ sym (lt-leb r q l)

pub get_d_stood : (q : ℕ) (ms : List Mark) (i : ℕ) → i < length ms → get_or (stood q ms) i false ≡ stood_in q (get_or ms i Kept)
get_d_stood q ms i h = get_or-map (stood_in q) ms i Kept false h

stood_same : (q r : ℕ) (c : Cause) (ms : List Mark) (i : ℕ) → i < length ms → get_or ms i Kept ≡ Kept → q ≤ r → stood q (set ms i (Dropped r c)) ≡ stood q ms
stood_same q r c ms i h kept le =
    let moved = map-set (stood_in q) ms i (Dropped r c) in
    let yes : leb q r ≡ true = le-leb q r le in
    let here : get_or (stood q ms) i false ≡ true = get_d_stood q ms i h ∙ ap (stood_in q) kept in
    let back = set-get_or (stood q ms) i false in
    moved ∙ ap (set (stood q ms) i) (yes ∙ sym here) ∙ back

stood_next : (r : ℕ) (c : Cause) (ms : List Mark) (i : ℕ) → ((k q : ℕ) (c : Cause) → get_or ms k Kept ≡ Dropped q c → q < r) → stood (r + 1) (set ms i (Dropped r c)) ≡ set (stood r ms) i false
stood_next r c ms i early =
    let on : stood (r + 1) ms ≡ stood r ms = ext_get_or false (stood (r + 1) ms) (stood r ms) (length-map ms (stood_in (r + 1)) ∙ sym (length-map ms (stood_in r)))
    (λ k h. let l : k < length ms = omega (arith, length-map ms (stood_in (r + 1))) in get_d_stood (r + 1) ms k l ∙ stood_on r (get_or ms k Kept) (early k) ∙ sym (get_d_stood r ms k l)) in
    map-set (stood_in (r + 1)) ms i (Dropped r c) ∙ ap (λ l. set l i (leb (r + 1) r)) on ∙ ap (set (stood r ms) i) (lt-leb (r + 1) r (omega arith))

all_kept : (m k : ℕ) → get_or (replicate m Kept) k Kept ≡ Kept
all_kept zero k = refl
all_kept (suc m) zero = refl
all_kept (suc m) (suc k) = all_kept m k

map_kept : (m : ℕ) → stood 1 (replicate m Kept) ≡ replicate m true
map_kept zero = refl
map_kept (suc m) = ap (λ l. true ∷ l) (map_kept m)

none_dropped : (m : ℕ) → count_by is_dropped (replicate m Kept) ≡ 0
none_dropped zero = refl
none_dropped (suc m) = sum_by-cons (λ x. one_if (is_dropped x)) Kept (replicate m Kept) ∙ omega (arith, none_dropped m)

module _ (n : ℕ) (verdicts : List Bool → ℕ → Option Cause) (before : ℕ → ℕ → Bool) where
  -- block k is the one to drop while fs stand
  abbrev pub Right : List Bool → ℕ → Cause → Type 0
  Right fs k cause = (verdicts fs k ≡ Some cause) × ((j : ℕ) (other : Cause) → j < n → verdicts fs j ≡ Some other → before k j ≡ false)

  pub record Partial (r : ℕ) (fs : List Bool) (ms : List Mark) : Type 0 where
    pub long : length ms ≡ n
    pub here : fs ≡ stood r ms
    pub first : 1 ≤ r
    pub early : (k q : ℕ) (cause : Cause) → get_or ms k Kept ≡ Dropped q cause → q < r
    pub late : (k q : ℕ) (cause : Cause) → get_or ms k Kept ≡ Dropped q cause → 1 ≤ q
    pub right : (k q : ℕ) (cause : Cause) → k < n → get_or ms k Kept ≡ Dropped q cause → Right (stood q ms) k cause
    pub counted : r ≡ count_by is_dropped ms + 1

  no_mark : (m k q : ℕ) (cause : Cause) → get_or (replicate m Kept) k Kept ≡ Dropped q cause → ⊥
  no_mark m k q cause e = let kept = all_kept m k in let z : ◌≡◌ {A = ℕ} 0 1 = cc in omega arith

  none_yet : Partial 1 (replicate n true) (replicate n Kept)
  none_yet = record {
    long = length-replicate n Kept;
    here = sym (map_kept n);
    first = omega arith;
    early = λ k q c e. absurd (no_mark n k q c e);
    late = λ k q c e. absurd (no_mark n k q c e);
    right = λ k q c h e. absurd (no_mark n k q c e);
    counted = omega (arith, none_dropped n);
  }

  finished : (r : ℕ) (fs : List Bool) (ms : List Mark) → Partial r fs ms → ((k : ℕ) → k < n → verdicts fs k ≡ None) → Settled n verdicts before fs ms r
  finished r fs ms p none = record {
    long = p.long;
    last = p.here;
    failed = λ k q c h e. (p.late k q c e, p.early k q c e, (p.right k q c h e).0);
    lowest = λ k q c h e. (p.right k q c h e).1;
    counted = p.counted;
    done = λ k h. ap (λ l. verdicts l k) (sym p.here) ∙ none k h;
  }

  -- a mark after one more is that one or an old one
  old_or_new : (ms : List Mark) (i r : ℕ) (c : Cause) → i < length ms → (k q : ℕ) (cause : Cause) → get_or (set ms i (Dropped r c)) k Kept ≡ Dropped q cause → ((k ≡ i) × (q ≡ r) × (cause ≡ c)) ⊎ (get_or ms k Kept ≡ Dropped q cause)
  old_or_new ms i r c h k q cause e = elim (cases_eq k i) [
    | inl s ↦ inl (let at = ap (λ j. get_or (set ms i (Dropped r c)) j Kept) s in let put = get_or-set_same ms i (Dropped r c) Kept h in (s, (cc), (cc)))
    | inr d ↦ inr (sym (get_or-set_other ms i k (Dropped r c) Kept d) ∙ e)
  ]

  dropped : (r : ℕ) (fs : List Bool) (ms : List Mark) (i : ℕ) (c : Cause) → Partial r fs ms → i < n → get_or fs i false ≡ true → Right fs i c → Partial (r + 1) (set fs i false) (set ms i (Dropped r c))
  dropped r fs ms i c p h stands ok =
      let hm : i < length ms = omega (arith, p.long) in
      let kept : get_or ms i Kept ≡ Kept = standing_kept r (get_or ms i Kept) (p.early i) (sym (get_d_stood r ms i hm) ∙ ap (λ l. get_or l i false) (sym p.here) ∙ stands) in
      record {
        long = length-set ms i (Dropped r c) ∙ p.long;
        here = ap (λ l. set l i false) p.here ∙ sym (stood_next r c ms i p.early);
        first = omega arith;
        early = λ k q cause e. elim (old_or_new ms i r c hm k q cause e) [ inl s ↦ omega (arith, s.1) | inr o ↦ omega (arith, p.early k q cause o) ];
        late = λ k q cause e. elim (old_or_new ms i r c hm k q cause e) [ inl s ↦ omega (arith, s.1, p.first) | inr o ↦ p.late k q cause o ];
        right = λ k q cause l e. elim (old_or_new ms i r c hm k q cause e) [
          | inl s ↦ (let same : fs ≡ stood q (set ms i (Dropped r c)) = p.here ∙ ap (λ x. stood x ms) (sym s.1) ∙ sym (stood_same q r c ms i hm kept (omega (arith, s.1))) in
              subst (λ l. Right l k cause) same (subst (λ x. Right fs x cause) (sym s.0) (subst (Right fs i) (sym s.2) ok)))
          | inr o ↦ (let same : stood q ms ≡ stood q (set ms i (Dropped r c)) = sym (stood_same q r c ms i hm kept (omega (arith, p.early k q cause o))) in
              subst (λ l. Right l k cause) same (p.right k q cause l o))
        ];
        counted = omega (arith, p.counted, sum_by-set (λ m. cond (is_dropped m) 1 0) ms i (Dropped r c) Kept hm, ap (λ m. one_if (is_dropped m)) kept);
      }

  module _ (standing-only : (fs : List Bool) (k : ℕ) (c : Cause) → verdicts fs k ≡ Some c → get_or fs k false ≡ true) (same : (k : ℕ) → before k k ≡ false) (chain : (i j k : ℕ) → before i j ≡ true → before j k ≡ true → before i k ≡ true) where
    abbrev next : List Bool → Option (ℕ × Cause)
    next fs = lowest_upto (verdicts fs) before n

    settle_by : (fuel r : ℕ) (fs : List Bool) (ms : List Mark) → length fs ≡ n → count fs ≤ fuel → Partial r fs ms → (o : Option (ℕ × Cause)) → next fs ≡ o → Low (verdicts fs) before n o → Settled n verdicts before (rounds_from next fuel r fs ms).standing (rounds_from next fuel r fs ms).marks (rounds_from next fuel r fs ms).rounds
    settle_by fuel r fs ms long few p None e low =
        subst (λ o. Settled n verdicts before o.standing o.marks o.rounds) (sym (rounds_stop next fuel r fs ms e)) (finished r fs ms p low)
    settle_by zero r fs ms long few p (Some w) e low =
        absurd (omega (arith, count_some fs w.0 (omega (arith, low.0)) (standing-only fs w.0 w.1 low.1)))
    settle_by (suc fuel) r fs ms long few p (Some w) e low =
        let stands = standing-only fs w.0 w.1 low.1 in
        let fs' = set fs w.0 false in
        subst (λ o. Settled n verdicts before o.standing o.marks o.rounds) (sym (rounds_step next fuel r fs ms w e))
        (settle_by fuel (r + 1) fs' (set ms w.0 (Dropped r w.1)) (length-set fs w.0 false ∙ long)
        (omega (arith, count_less fs w.0 (omega (arith, low.0)) stands))
        (dropped r fs ms w.0 w.1 p low.0 stands (low.1, low.2)) (next fs') refl (lowest_low (verdicts fs') before same chain n))

    pub settled : Settled n verdicts before (rounds_from next n 1 (replicate n true) (replicate n Kept)).standing (rounds_from next n 1 (replicate n true) (replicate n Kept)).marks (rounds_from next n 1 (replicate n true) (replicate n Kept)).rounds
    settled =
        settle_by n 1 (replicate n true) (replicate n Kept) (length-replicate n true) (omega (arith, count_all n)) none_yet (next (replicate n true)) refl (lowest_low (verdicts (replicate n true)) before same chain n)

-- at the blocks

one_less : (a b : Bool) → (a ≡ true → b ≡ true) → one_if a ≤ one_if b
one_less true b h = omega (arith, ap one_if (h refl))
one_less false b h = omega arith

is_drop : (m : Mark) → is_dropped m ≡ true → (q : ℕ) × (c : Cause) × (m ≡ Dropped q c)
is_drop Kept e = absurd (cc)
is_drop (Dropped q c) e = (q, c, refl)

pub standing_fails : (f : Bool) (l s : Block → Bool) (o : Option Block) (c : Cause) → verdict_of f l s o ≡ Some c → f ≡ true
standing_fails true l s o c e = refl
standing_fails false l s None c e = absurd (cc)
standing_fails false l s (Some b) c e = absurd (cc)

block_fails : (f : Bool) (l s : Block → Bool) (o : Option Block) (c : Cause) → verdict_of f l s o ≡ Some c → is_some o ≡ true
block_fails f l s None c e = absurd (cc)
block_fails f l s (Some b) c e = refl

pub row_fails : (bs : List (Option Block)) (fs : List Bool) (rs : List HourResult) (k : ℕ) (c : Cause) → verdict bs fs rs k ≡ Some c → is_some (get_or bs k None) ≡ true
row_fails bs fs rs k c e = block_fails (get_or fs k false) (λ b. loss b rs) (short bs fs rs) (get_or bs k None) c e

fewer_of : {X Y : Type 0} (p : X → Bool) (q : Y → Bool) (d : X) (e : Y) (xs : List X) (ys : List Y) → length xs ≡ length ys → ((k : ℕ) → k < length xs → p (get_or xs k d) ≡ true → q (get_or ys k e) ≡ true) → count_by p xs ≤ count_by q ys
fewer_of p q d e [] ys long h = omega arith
fewer_of p q d e (x ∷ xs) [] long h = absurd (omega arith)
fewer_of p q d e (x ∷ xs) (y ∷ ys) long h =
    omega (arith, sum_by-cons (λ a. one_if (p a)) x xs, sum_by-cons (λ a. one_if (q a)) y ys, one_less (p x) (q y) (h zero (omega arith)), fewer_of p q d e xs ys (omega arith) (λ k l. h (suc k) (omega arith)))

pub ranking : RankLaws (place_number (λ (a : BlockClaim). a.stamp)) (place_before block_before)
ranking = by_place (by_key (λ a. a.hours) (by_key (λ a. a.volume) (by_stamp (λ a. a.stamp))))

pub block_low : (v : ℕ → Option Cause) (bs : List (Option Block)) (n : ℕ) → Low v (blocks_before bs) n (lowest_upto v (blocks_before bs) n)
block_low v bs n = lowest_low v (blocks_before bs) (λ k. ranking.irreflexive (claim_at bs k)) (λ i j k. ranking.transitive (claim_at bs i) (claim_at bs j) (claim_at bs k)) n

-- a block that is to be dropped stands
pub drop_stands : (bs : List (Option Block)) (priced : List Bool → List HourResult) (fs : List Bool) (w : ℕ × Cause) → next_drop bs priced fs ≡ Some w → (w.0 < length bs) × (get_or fs w.0 false ≡ true)
drop_stands bs priced fs w e =
    let v = round_verdict bs priced fs in
    let low : Low v (blocks_before bs) (length bs) (Some w) = subst (Low v (blocks_before bs) (length bs)) e (block_low v bs (length bs)) in
    (low.0, standing_fails _ _ _ (get_or bs w.0 None) w.1 low.1)

pub blocks_settled : (bs : List (Option Block)) (priced : List Bool → List HourResult) → Settled (length bs) (round_verdict bs priced) (blocks_before bs) (rounds_of bs priced).standing (rounds_of bs priced).marks (rounds_of bs priced).rounds
blocks_settled bs priced =
    settled (length bs) (round_verdict bs priced) (blocks_before bs) (λ fs k c. standing_fails _ _ _ (get_or bs k None) c) (λ k. ranking.irreflexive (claim_at bs k)) (λ i j k. ranking.transitive (claim_at bs i) (claim_at bs j) (claim_at bs k))

-- one round: the block is dropped, and the rest of the rounds is as before
pub one_round : (bs : List (Option Block)) (priced : List Bool → List HourResult) (r : ℕ) (fs : List Bool) (ms : List Mark) (w : ℕ × Cause) → length fs ≡ length bs → next_drop bs priced fs ≡ Some w → rounds_from (next_drop bs priced) (count fs) r fs ms ≡ rounds_from (next_drop bs priced) (count (set fs w.0 false)) (r + 1) (set fs w.0 false) (set ms w.0 (Dropped r w.1))
one_round bs priced r fs ms w long e =
    let s = drop_stands bs priced fs w e in
    let next = next_drop bs priced in
    ap (λ k. rounds_from next k r fs ms) (count_less fs w.0 (omega (arith, s.0)) s.1) ∙ rounds_step next (count (set fs w.0 false)) r fs ms w e

-- what is found at the results of the round
pub found : (bs : List (Option Block)) (priced : List Bool → List HourResult) (fs : List Bool) (rs : List HourResult) (o : Option (ℕ × Cause)) → rs ≡ priced fs → o ≡ lowest_upto (verdict bs fs rs) (blocks_before bs) (length bs) → next_drop bs priced fs ≡ o
found bs priced fs rs o p h = sym (h ∙ ap (λ x. lowest_upto (verdict bs fs x) (blocks_before bs) (length bs)) p)

-- the loop's invariant, at its start, after a round and at its end
module _ (bs : List (Option Block)) (priced : List Bool → List HourResult) where
  abbrev pub Running : ℕ → List Bool → List Mark → Type 0
  Running r fs ms =
      (length fs ≡ length bs) × (length ms ≡ length bs) × (r + count fs ≡ length bs + 1)
      × (rounds_from (next_drop bs priced) (count fs) r fs ms ≡ rounds_of bs priced)

  pub fewer : (fs : List Bool) (i : ℕ) (c : Cause) → length fs ≡ length bs → next_drop bs priced fs ≡ Some (i, c) → count fs ≡ suc (count (set fs i false))
  fewer fs i c long e = let s = drop_stands bs priced fs (i, c) e in count_less fs i (omega (arith, s.0)) s.1

  pub running_more : (r : ℕ) (fs : List Bool) (ms : List Mark) (i : ℕ) (c : Cause) → Running r fs ms → next_drop bs priced fs ≡ Some (i, c) → Running (r + 1) (set fs i false) (set ms i (Dropped r c))
  running_more r fs ms i c run e =
      (length-set fs i false ∙ run.0, length-set ms i (Dropped r c) ∙ run.1, omega (arith, run.2, fewer fs i c run.0 e), sym (one_round bs priced r fs ms (i, c) run.0 e) ∙ run.3)

  pub running_done : (r : ℕ) (fs : List Bool) (ms : List Mark) → Running r fs ms → next_drop bs priced fs ≡ None → outcome fs ms r ≡ rounds_of bs priced
  running_done r fs ms run e = sym (rounds_stop (next_drop bs priced) (count fs) r fs ms e) ∙ run.3

  pub running_settled : (r : ℕ) (fs : List Bool) (ms : List Mark) → outcome fs ms r ≡ rounds_of bs priced → Settled (length bs) (round_verdict bs priced) (blocks_before bs) fs ms r
  running_settled r fs ms e = subst (λ o. Settled (length bs) (round_verdict bs priced) (blocks_before bs) o.standing o.marks o.rounds) (sym e) (blocks_settled bs priced)

  -- no more are dropped than there are blocks
  pub few_rounds : (r : ℕ) (fs : List Bool) (ms : List Mark) → length ms ≡ length bs → Settled (length bs) (round_verdict bs priced) (blocks_before bs) fs ms r → r ≤ count_by is_some bs + 1
  few_rounds r fs ms long s =
      omega (
        arith,
        s.counted,
        fewer_of is_dropped is_some Kept None ms bs long (λ k l e.
            let m = is_drop (get_or ms k Kept) e in
            let then-fs = stood m.0 ms in
            row_fails bs then-fs (priced then-fs) k m.1 (s.failed k m.0 m.1 (omega arith) m.2).2),
      )
