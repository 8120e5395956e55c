-- The laws of one side of an hour in the order table.
use Rattle.std.specs.Prelude.{◌≡◌, ℕ, ◌+◌, ◌*◌, ◌<◌, ◌≤◌, Bool, true, false, cond, ◌&&◌, List, [], ◌∷◌, length, drop, ◌==◌, sum_by, Option, None, Some, slice_index_or}
use Rattle.std.proofs.Common.{refl, ap, sym, ◌∙◌, arith}
use Rattle.std.proofs.lemmas.List.{at_drop_more, at_drop_all}
use Rattle.std.proofs.lemmas.List.Sums.{sum_by-cons}
use Rattle.curves.specs.declared.sides.Side.{Side}
use Rattle.curves.specs.declared.sides.Side.TheVariants.{Buy, Sell}
use Rattle.curves.specs.Tables.{Turned}
use Rattle.curves.specs.Offers.{offer_shows}
use Rattle.curves.specs.Orders.{offer_of}
use Rattle.curves.specs.Offered.{flat_turned, offer_turned, offer_few}
use Rattle.book.specs.declared.entries.Entry.{Entry}
use Rattle.book.specs.Shown.{same_side, place_shows, book_shows}
use Rattle.book.specs.Views.{place_of, places}

kept_turned : (own side : Side) (f : ℕ → ℕ) (b : Bool) → Turned own f → Turned side (λ t. cond (b && same_side own side) (f t) 0)
kept_turned own side f false h = flat_turned side 0
kept_turned Buy Buy f true h = h
kept_turned Buy Sell f true h = flat_turned Sell 0
kept_turned Sell Buy f true h = flat_turned Buy 0
kept_turned Sell Sell f true h = h

both_turned : (side : Side) (f g : ℕ → ℕ) → Turned side f → Turned side g → Turned side (λ t. f t + g t)
both_turned Buy f g hf hg = λ t u a b c. omega (arith, hf t u a b c, hg t u a b c)
both_turned Sell f g hf hg = λ t u a b c. omega (arith, hf t u a b c, hg t u a b c)

place_turned : (hour : ℕ) (side : Side) (r : Option Entry) → Turned side (place_shows hour side (place_of r))
place_turned hour side None = flat_turned side 0
place_turned hour side (Some e) = kept_turned (offer_of e.order).side side (offer_shows (offer_of e.order)) (e.product == hour) (offer_turned e.order)

place_few : (hour : ℕ) (side : Side) (r : Option Entry) (t : ℕ) → place_shows hour side (place_of r) t ≤ 100000
place_few hour side None t = omega arith
place_few hour side (Some e) t = grind (arith, offer_few e.order t)

pub book_turned : (hour : ℕ) (side : Side) (rows : List (Option Entry)) → Turned side (book_shows hour side (places rows))
unfolding book_shows places
book_turned hour side [] = flat_turned side 0
book_turned hour side (r ∷ rs) = both_turned side (place_shows hour side (place_of r)) (book_shows hour side (places rs)) (place_turned hour side r) (book_turned hour side rs)

pub book_few : (hour : ℕ) (side : Side) (rows : List (Option Entry)) (t : ℕ) → book_shows hour side (places rows) t ≤ 100000 * length rows
unfolding book_shows places
book_few hour side [] t = omega arith
book_few hour side (r ∷ rs) t = omega (arith, place_few hour side r t, book_few hour side rs t)

-- the rows' sum, term by term
pub book_sum : (hour : ℕ) (side : Side) (rows : List (Option Entry)) (t : ℕ) → book_shows hour side (places rows) t ≡ sum_by (λ r. place_shows hour side (place_of r) t) rows
unfolding book_shows places
book_sum hour side [] t = refl
book_sum hour side (r ∷ rs) t = omega (arith, book_sum hour side rs t, sum_by-cons (λ (x : Option Entry). place_shows hour side (place_of x) t) r rs)

-- one row of a walk
pub book_step : (hour : ℕ) (side : Side) (rows : List (Option Entry)) (i t : ℕ) (r : Option Entry) → i < length rows → r ≡ slice_index_or rows i r →
    book_shows hour side (places (drop i rows)) t ≡ place_shows hour side (place_of r) t + book_shows hour side (places (drop (i + 1) rows)) t
unfolding book_shows places
book_step hour side rows i t r h e =
    at_drop_more (λ (xs : List (Option Entry)). book_shows hour side (places xs) t) rows i r h
    ∙ ap (λ (q : Option Entry). place_shows hour side (place_of q) t + book_shows hour side (places (drop (i + 1) rows)) t) (sym e)

pub book_end : (hour : ℕ) (side : Side) (rows : List (Option Entry)) (i t : ℕ) → length rows ≤ i → book_shows hour side (places (drop i rows)) t ≡ 0
unfolding book_shows places
book_end hour side rows i t h = at_drop_all (λ (xs : List (Option Entry)). book_shows hour side (places xs) t) rows i h
