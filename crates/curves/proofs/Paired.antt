-- What is asked for, number by number and pair by pair.
use Rattle.std.proofs.Common.{◌≡◌, ℕ, ◌+◌, ◌<◌, ◌≤◌, Bool, true, false, cond, ltb, leb, List, [], ◌∷◌, ◌++◌, length, get_or, take, drop, set, Ok, Err, Result, sym, refl, ap, ◌∙◌, arith}
use lib.ListN.{length-map}
use Rattle.std.proofs.lemmas.List.{at_drop_more, at_drop_all, take_more, take_more_set, map_push}
use Rattle.std.proofs.lemmas.Bool.{and_from, cond-true, cond-false}
use Rattle.std.proofs.lemmas.Bool.Decides.{nat_tests}
use Rattle.faults.specs.declared.fault.Fault.{Fault}
use Rattle.faults.specs.declared.fault.Refusal.TheVariants.{TickNotAbove, VolumeTurned}
use Rattle.faults.specs.Refusals.{fault}
use Rattle.faults.specs.Answers.{out_of_range}
use Rattle.curves.specs.declared.sides.Side.{Side}
use Rattle.curves.specs.declared.pairs.Pair.{Pair}
use Rattle.curves.specs.declared.quotes.Quote.{Quote}
use Rattle.curves.specs.Points.{Point}
use Rattle.curves.specs.Ranges.{bad_count}
use Rattle.curves.specs.Sequences.{turns, ordered, bad_point, pair_asked, wild, paired, pairs_verdict}
use Rattle.curves.specs.Views.{point, points, quoted, quotes}

abbrev pub no_quote : Quote
no_quote = record { tick = 0; volume = 0 }

-- the answer of a test that has passed, and of one that has failed
abbrev pub tested : {A : Type 0} → Bool → A → Result A Fault
tested b x = cond b (Err out_of_range) (Ok x)

pub tested_err : {A : Type 0} (b : Bool) (x : A) (f : Fault) → ◌≡◌ {A = Result A Fault} (Err f) (tested b x) → (b ≡ true) × (f ≡ out_of_range)
tested_err true x f e = (refl, cc)
tested_err false x f e = absurd (let z : ◌≡◌ {A = ℕ} 0 1 = cc in omega arith)

pub tested_ok : {A : Type 0} (b : Bool) (x y : A) → ◌≡◌ {A = Result A Fault} (Ok y) (tested b x) → (b ≡ false) × (y ≡ x)
tested_ok true x y e = absurd (let z : ◌≡◌ {A = ℕ} 0 1 = cc in omega arith)
tested_ok false x y e = (refl, cc)

-- one number pair of a walk over those that are asked for
wild_step : (qs : List Quote) (i : ℕ) → i < length qs → wild (quotes (drop i qs)) ≡ cond (bad_point (quoted (get_or qs i no_quote))) true (wild (quotes (drop (i + 1) qs)))
unfolding wild quotes
wild_step qs i h = at_drop_more (λ (xs : List Quote). wild (quotes xs)) qs i no_quote h

pub wild_end : (qs : List Quote) (i : ℕ) → length qs ≤ i → wild (quotes (drop i qs)) ≡ false
unfolding wild quotes
wild_end qs i h = at_drop_all (λ (xs : List Quote). wild (quotes xs)) qs i h

pub wild_here : (qs : List Quote) (i : ℕ) (f : Fault) → i < length qs → ◌≡◌ {A = Result Point Fault} (Err f) (pair_asked (quoted (get_or qs i no_quote))) → (wild (quotes (drop i qs)) ≡ true) × (f ≡ out_of_range)
wild_here qs i f h e =
    let t = tested_err (bad_point (quoted (get_or qs i no_quote))) (quoted (get_or qs i no_quote)) f e in
    (wild_step qs i h ∙ cond-true _ _ _ t.0, t.1)

pub tame_here : (qs : List Quote) (i : ℕ) (p : Pair) → i < length qs → ◌≡◌ {A = Result Point Fault} (Ok (point p)) (pair_asked (quoted (get_or qs i no_quote))) → (wild (quotes (drop i qs)) ≡ wild (quotes (drop (i + 1) qs))) × (point p ≡ quoted (get_or qs i no_quote))
tame_here qs i p h e =
    let t = tested_ok (bad_point (quoted (get_or qs i no_quote))) (quoted (get_or qs i no_quote)) (point p) e in
    (wild_step qs i h ∙ cond-false _ _ _ t.0, t.1)

-- one pair more at the front of the array
pub points_more : (ps : List Pair) (qs : List Quote) (i : ℕ) (p : Pair) → i < length ps → i < length qs → point p ≡ quoted (get_or qs i no_quote)
    → points (take i ps) ≡ quotes (take i qs) → points (take (i + 1) (set ps i p)) ≡ quotes (take (i + 1) qs)
unfolding quotes
points_more ps qs i p hp hq e inv =
    ap points (take_more_set ps i p hp)
    ∙ (map_push point (take i ps) p
    ∙ (ap (λ (xs : List Point). xs ++ (point p ∷ [])) inv
    ∙ (ap (λ (x : Point). quotes (take i qs) ++ (x ∷ [])) e
    ∙ (sym (map_push quoted (take i qs) (get_or qs i no_quote))
    ∙ ap quotes (sym (take_more qs i no_quote hq))))))

pub no_points : points [] ≡ quotes []
unfolding quotes
no_points = refl

-- one turn over neighbours
pub paired_turn : (side : Side) (k : ℕ) (xs rest : List Pair) (p q : Pair) → (xs ≡ p ∷ rest) × (rest ≡ q ∷ drop 1 rest) →
    paired side k (points xs) ≡ cond (leb q.tick p.tick) (Err (fault (TickNotAbove k) 0)) (cond (turns side p.volume q.volume) (paired side (k + 1) (points rest)) (Err (fault (VolumeTurned k) 0)))
unfolding paired
paired_turn side k xs rest p q e =
    ap (λ (ys : List Pair). paired side k (points ys)) (e.0 ∙ ap (λ (ys : List Pair). p ∷ ys) e.1)
    ∙ ap (λ (ys : List Pair). cond (leb q.tick p.tick) (Err (fault (TickNotAbove k) 0)) (cond (turns side p.volume q.volume) (paired side (k + 1) (points ys)) (Err (fault (VolumeTurned k) 0)))) (sym e.1)

pub paired_over : (side : Side) (k : ℕ) (xs : List Pair) → length xs < 2 → paired side k (points xs) ≡ Ok tt
unfolding paired
paired_over side k [] h = refl
paired_over side k (p ∷ []) h = refl
paired_over side k (p ∷ q ∷ xs) h = absurd (omega arith)

-- a test that would have refused did not hold
err_first : (b : Bool) (f : Fault) (x : Result (Unit {0}) Fault) → cond b (Err f) x ≡ Ok tt → (b ≡ false) × (x ≡ Ok tt)
err_first true f x e = absurd (let z : ◌≡◌ {A = ℕ} 0 1 = cc in omega arith)
err_first false f x e = (refl, e)

err_last : (b : Bool) (f : Fault) (x : Result (Unit {0}) Fault) → cond b x (Err f) ≡ Ok tt → (b ≡ true) × (x ≡ Ok tt)
err_last true f x e = (refl, e)
err_last false f x e = absurd (let z : ◌≡◌ {A = ℕ} 0 1 = cc in omega arith)

above : (a b : ℕ) → leb b a ≡ false → ltb a b ≡ true
above a b e = grind (arith, nat_tests)

pub paired_ordered : (side : Side) (k : ℕ) (ps : List Point) → paired side k ps ≡ Ok tt → ordered side ps ≡ true
unfolding paired ordered
paired_ordered side k [] e = refl
paired_ordered side k (p ∷ []) e = refl
paired_ordered side k (p ∷ q ∷ ps) e =
    let a = err_first (leb q.tick p.tick) (fault (TickNotAbove k) 0) _ e in
    let b = err_last (turns side p.volume q.volume) (fault (VolumeTurned k) 0) _ a.1 in
    and_from _ _ (and_from _ _ (above p.tick q.tick a.0) b.0) (paired_ordered side (k + 1) (q ∷ ps) b.1)

-- the verdict, as far as the tests have come
module _ (side : Side) (qs : List Quote) where
  quotes_long : length (quotes qs) ≡ length qs
  unfolding quotes
  quotes_long = length-map qs quoted

  pub verdict_count : bad_count (length qs) ≡ true → pairs_verdict side (quotes qs) ≡ Err out_of_range
  unfolding pairs_verdict
  verdict_count h = cond-true (bad_count (length (quotes qs))) _ _ (ap bad_count quotes_long ∙ h)

  pub verdict_wild : bad_count (length qs) ≡ false → wild (quotes qs) ≡ true → pairs_verdict side (quotes qs) ≡ Err out_of_range
  unfolding pairs_verdict
  verdict_wild h w = cond-false (bad_count (length (quotes qs))) _ _ (ap bad_count quotes_long ∙ h) ∙ cond-true (wild (quotes qs)) _ _ w

  pub verdict_pairs : bad_count (length qs) ≡ false → wild (quotes qs) ≡ false → pairs_verdict side (quotes qs) ≡ paired side 2 (quotes qs)
  unfolding pairs_verdict
  verdict_pairs h w = cond-false (bad_count (length (quotes qs))) _ _ (ap bad_count quotes_long ∙ h) ∙ cond-false (wild (quotes qs)) _ _ w
