-- One hour set more among a day's block products.
use Rattle.std.proofs.Common.{◌≡◌, ℕ, ◌+◌, ◌<◌, true, false, not, List, [], ◌∷◌, length, take, set, refl, ap, ◌∙◌}
use Rattle.std.proofs.lemmas.List.{take_more_set}
use Rattle.std.proofs.lemmas.Bool.{and_from, and_parts}
use Rattle.book.specs.HourSets.{bad_hours, all_hours, pushed}

pub all_pushed : (hs : List ℕ) (h : ℕ) → all_hours hs ≡ true → bad_hours h ≡ false → all_hours (pushed hs h) ≡ true
all_pushed [] h e f = and_from (not (bad_hours h)) true (ap not f) refl
all_pushed (x ∷ hs) h e f =
    let parts = and_parts (not (bad_hours x)) (all_hours hs) e in
    and_from (not (bad_hours x)) (all_hours (pushed hs h)) parts.0 (all_pushed hs h parts.1 f)

pub all_added : (hs : List ℕ) (k h : ℕ) → k < length hs → all_hours (take k hs) ≡ true → bad_hours h ≡ false → all_hours (take (k + 1) (set hs k h)) ≡ true
all_added hs k h l e f = ap all_hours (take_more_set hs k h l) ∙ all_pushed (take k hs) h e f
