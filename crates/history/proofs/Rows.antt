-- The order table that a history tells, row by row.
use Rattle.std.proofs.Common.{◌≡◌, ℕ, ◌<◌, cond, eqb, List, ◌∷◌, length, set, sym, ◌∙◌, inl, inr, arith, length-set, get_or-set_other, get_or-set_same}
use Rattle.std.proofs.lemmas.List.FromFn.{fill_by_all, length-map-range_with_len, get_or-map-range_with_len}
use Rattle.std.proofs.lemmas.Bool.Decides.{eqb_tells}
use Rattle.book.specs.Bids.{Place, vacant}
use Rattle.book.specs.Places.{place_at}
use Rattle.history.specs.Events.{Event}
use Rattle.history.specs.Told.{row_told, table_told}

pub table_length : (h : List Event) → length (table_told h) ≡ 256
unfolding table_told
table_length h = length-map-range_with_len (λ k. row_told k h) 0 256

pub table_at : (h : List Event) (k : ℕ) → k < 256 → place_at (table_told h) k ≡ row_told k h
unfolding table_told
table_at h k l = get_or-map-range_with_len (λ j. row_told j h) 0 256 k k vacant l (omega arith)

put_at : (ps : List Place) (r k : ℕ) (x y : Place) → r < length ps → place_at ps k ≡ y → place_at (set ps r x) k ≡ cond (eqb r k) x y
put_at ps r k x y hr e = elim (eqb_tells r k) [
  | inl p ↦ rw (p.0, ← p.1) (get_or-set_same ps r x vacant hr)
  | inr p ↦ rw p.0 (get_or-set_other ps r k x vacant (λ q. p.1 (sym q)) ∙ e)
]

pub table_is : (h : List Event) (ps : List Place) → length ps ≡ 256 → ((k : ℕ) → k < 256 → place_at ps k ≡ row_told k h) → ps ≡ table_told h
unfolding table_told
table_is h ps n at = fill_by_all (λ k. row_told k h) ps 256 vacant n at

-- a table told by an event that sets one row
pub table_set : (h : List Event) (e : Event) (r : ℕ) (x : Place) → r < 256 → ((k : ℕ) → row_told k (e ∷ h) ≡ cond (eqb r k) x (row_told k h)) → set (table_told h) r x ≡ table_told (e ∷ h)
table_set h e r x l f =
    let t = table_told h in
    let within : r < length t = rw table_length l in
    table_is (e ∷ h) (set t r x) (length-set t r x ∙ table_length h) (λ k lk. put_at t r k x (row_told k h) within (table_at h k lk) ∙ sym (f k))

-- a table told by an event that touches no row
pub table_same : (h : List Event) (e : Event) → ((k : ℕ) → row_told k (e ∷ h) ≡ row_told k h) → table_told h ≡ table_told (e ∷ h)
table_same h e f = table_is (e ∷ h) (table_told h) (table_length h) (λ k l. table_at h k l ∙ sym (f k))
