-- The hours of a block of the day are some of the 24.
use Rattle.std.proofs.Common.{◌≡◌, ℕ, zero, suc, ◌<◌, Bool, true, false, cond, not, ltb, List, [], ◌∷◌, length, get_or, Some, None, Option, IfSome, subst, refl, arith}
use Rattle.std.proofs.lemmas.Bool.{ltb-true, and_parts}
use Rattle.book.specs.HourSets.{bad_hours, all_hours, hours_at}

denied : (b : Bool) → not b ≡ true → b ≡ false
denied true e = let z : ◌≡◌ {A = ℕ} 0 1 = cc in absurd (omega arith)
denied false e = refl

each_proper : (hs : List ℕ) (k : ℕ) → all_hours hs ≡ true → k < length hs → bad_hours (get_or hs k 0) ≡ false
each_proper [] k e l = absurd (omega arith)
each_proper (h ∷ hs) zero e l = denied (bad_hours h) (and_parts (not (bad_hours h)) (all_hours hs) e).0
each_proper (h ∷ hs) (suc k) e l = each_proper hs k (and_parts (not (bad_hours h)) (all_hours hs) e).1 (omega arith)

tested : (t : Bool) (x : ℕ) → (t ≡ true → bad_hours x ≡ false) → IfSome (cond t (Some x) None) (λ h. bad_hours h ≡ false)
tested true x f = f refl
tested false x f = tt

pub proper_set : (hs : List ℕ) (k set : ℕ) → all_hours hs ≡ true → hours_at hs k ≡ Some set → bad_hours set ≡ false
proper_set hs k set all e =
    let P : Option ℕ → Type 0 = λ o. IfSome o (λ h. bad_hours h ≡ false) in
    subst P e (tested (ltb k (length hs)) (get_or hs k 0) (λ t. each_proper hs k all (ltb-true k (length hs) t)))
