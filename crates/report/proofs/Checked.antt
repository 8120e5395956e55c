-- What a check that passed says of each item: the price of an hour, the hour set of a block.
use Rattle.std.proofs.Common.{◌≡◌, ℕ, zero, suc, ◌<◌, Bool, true, false, cond, not, ltb, List, [], ◌∷◌, length, get_or, Ok, Err, Result, Some, None, Option, IfSome, subst, sym, refl, ap, ◌∙◌, arith}
use Rattle.std.specs.Prelude.{◌||◌}
use Rattle.std.specs.List.{list_any}
use Rattle.std.proofs.lemmas.Bool.{ltb-true, and_parts, and_from, eq-eqb, cond-true, cond-false}
use Rattle.faults.specs.declared.fault.Fault.{Fault}
use Rattle.faults.specs.Answers.{out_of_range}
use Rattle.curves.specs.Ranges.{bad_tick}
use Rattle.book.specs.HourSets.{bad_hours, all_hours, hours_at}
use Rattle.book.specs.Shown.{bad_hour}
use Rattle.clearing.specs.declared.results.HourResult.{HourResult}
use Rattle.clearing.specs.Sharing.{shares_refused}
use Rattle.report.specs.Final.{prices_refused}

either_off : (a b : Bool) (x y : Result (Unit {0}) Fault) → cond a x (cond b x y) ≡ cond (a || b) x y
either_off true b x y = refl
either_off false b x y = refl

-- refused where one of the prices is off the ladder
pub refused_by_any : (rs : List HourResult) → prices_refused rs ≡ cond (list_any (λ (r : HourResult). bad_tick r.price) rs) (Err out_of_range) (Ok tt)
refused_by_any [] = refl
refused_by_any (r ∷ rs) = ap (λ x. cond (bad_tick r.price) (Err out_of_range) x) (refused_by_any rs) ∙ either_off (bad_tick r.price) (list_any (λ (h : HourResult). bad_tick h.price) rs) (Err out_of_range) (Ok tt)

passed : (b : Bool) (x : Result (Unit {0}) Fault) → cond b (Err out_of_range) x ≡ Ok tt → (b ≡ false) × (x ≡ Ok tt)
passed true x e = absurd (let z : ◌≡◌ {A = ℕ} 0 1 = cc in omega arith)
passed false x e = (refl, e)

pub priced_at : (rs : List HourResult) (h : ℕ) (d : HourResult) → prices_refused rs ≡ Ok tt → h < length rs → bad_tick (get_or rs h d).price ≡ false
priced_at [] h d e l = absurd (omega arith)
priced_at (r ∷ rs) zero d e l = (passed (bad_tick r.price) (prices_refused rs) e).0
priced_at (r ∷ rs) (suc h) d e l = priced_at rs h d (passed (bad_tick r.price) (prices_refused rs) e).1 (omega arith)

not-true : (b : Bool) → not b ≡ true → b ≡ false
not-true true e = sym e
not-true false e = refl

each_proper : (hs : List ℕ) (k : ℕ) → all_hours hs ≡ true → k < length hs → bad_hours (get_or hs k 0) ≡ false
each_proper [] k e l = absurd (omega arith)
each_proper (h ∷ hs) zero e l = not-true (bad_hours h) (and_parts (not (bad_hours h)) (all_hours hs) e).0
each_proper (h ∷ hs) (suc k) e l = each_proper hs k (and_parts (not (bad_hours h)) (all_hours hs) e).1 (omega arith)

tested : (t : Bool) (x : ℕ) → (t ≡ true → bad_hours x ≡ false) → IfSome (cond t (Some x) None) (λ h. bad_hours h ≡ false)
tested true x f = f refl
tested false x f = tt

pub proper_set : (hs : List ℕ) (k set : ℕ) → all_hours hs ≡ true → hours_at hs k ≡ Some set → bad_hours set ≡ false
proper_set hs k set all e =
    let P : Option ℕ → Type 0 = λ o. IfSome o (λ h. bad_hours h ≡ false) in
    subst P e (tested (ltb k (length hs)) (get_or hs k 0) (λ t. each_proper hs k all (ltb-true k (length hs) t)))

-- tables of the right lengths, an hour of the day and a price on the ladder are not refused
pub shares_granted : (rows marks shares hour price : ℕ) → rows ≡ 256 → marks ≡ 256 → shares ≡ 256 → bad_hour hour ≡ false → bad_tick price ≡ false → shares_refused rows marks shares hour price ≡ Ok tt
shares_granted rows marks shares hour price r m s h p =
    cond-true _ _ _ (and_from _ _ (eq-eqb rows 256 r) (and_from _ _ (eq-eqb marks 256 m) (eq-eqb shares 256 s))) ∙ cond-false _ _ _ h ∙ cond-false _ _ _ p
