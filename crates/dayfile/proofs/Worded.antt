-- The texts of a day's parts as they are written.
use Rattle.std.proofs.Common.{◌≡◌, ℕ, ◌<◌, ◌≤◌, List, [], ◌∷◌, ◌++◌, length, get_or, Some, None, codes, decimal, sym, refl, ap, ◌∙◌, ⊎_elim, arith}
use Rattle.std.proofs.lemmas.List.{get_or_default, length-map}
use Rattle.std.proofs.lemmas.Bool.{lt-ltb, le-ltb, cases_lt}
use Rattle.curves.specs.declared.ticks.Tick.{Tick}
use Rattle.book.specs.HourSets.{hours_at}
use Rattle.curves.specs.Points.{Point}
use Rattle.curves.specs.Offers.{flat, stairs, slopes}
use Rattle.book.specs.Bids.{Asked, Place}
use Rattle.text.specs.Staged.{many}
use Rattle.dayfile.specs.declared.kinds.Kind.TheVariants.{Market, Step, Linear}
use Rattle.dayfile.specs.Kinds.{side_name, kind_name}
use Rattle.dayfile.specs.Lines.{point_text, point_on, pairs_text, form_text, order_text}
use Rattle.dayfile.specs.Day.{DayText, day_text, count_text, tick_on, set_line, hours_text, blocks_text, order_line, booked, empty_book, orders_text}
use Rattle.dayfile.specs.Views.{tick_values}
use Rattle.dayfile.specs.Sequence.{stamped, unstamped, sequence}
use Rattle.dayfile.specs.Written.{headed, lines_text, table_text}
use Rattle.dayfile.proofs.Chaining.{staged_joined}

abbrev pub num : ℕ → ℕ → List ℕ
num n c = decimal n ++ (c ∷ [])

pub point_text_is : (c : ℕ) (p : Point) → (point_text c).text p ≡ num p.tick 32 ++ num p.volume c
unfolding point_text
point_text_is c p = refl

pub pairs_said : (ps : List Point) → pairs_text.text ps ≡ num (length ps) 32 ++ (many point_on (length ps)).text ps
unfolding pairs_text
pairs_said ps = refl

pub flat_text : (v : ℕ) → form_text.text (flat v) ≡ (kind_name Market ++ (32 ∷ [])) ++ num v 10
unfolding form_text
flat_text v = refl

pub stairs_text : (ps : List Point) → form_text.text (stairs ps) ≡ (kind_name Step ++ (32 ∷ [])) ++ pairs_text.text ps
unfolding form_text
stairs_text ps = refl

pub slopes_text : (ps : List Point) → form_text.text (slopes ps) ≡ (kind_name Linear ++ (32 ∷ [])) ++ pairs_text.text ps
unfolding form_text
slopes_text ps = refl

pub order_text_is : (a : Asked) → order_text.text a ≡ num a.row 32 ++ (num a.member 32 ++ (num a.product 32 ++ ((side_name a.offer.side ++ (32 ∷ [])) ++ form_text.text a.offer.form)))
unfolding order_text
order_text_is a = refl

pub count_text_is : (w : List ℕ) (low high n : ℕ) → (count_text w low high).text n ≡ headed w n
unfolding count_text
count_text_is w low high n = refl

pub hours_text_is : (xs : List ℕ) → hours_text.text xs ≡ headed (codes "hours") (length xs) ++ (many tick_on (length xs)).text xs
unfolding hours_text
hours_text_is xs = ap (λ h. h ++ (many tick_on (length xs)).text xs) (count_text_is (codes "hours") 24 24 (length xs))

pub blocks_text_is : (xs : List ℕ) → blocks_text.text xs ≡ headed (codes "blocks") (length xs) ++ (many set_line (length xs)).text xs
unfolding blocks_text
blocks_text_is xs = ap (λ h. h ++ (many set_line (length xs)).text xs) (count_text_is (codes "blocks") 0 14 (length xs))

pub orders_text_is : (n : ℕ) (xs : List Asked) → (orders_text n).text xs ≡ table_text xs
unfolding orders_text lines_text
orders_text_is n xs = λ i. count_text_is (codes "orders") 0 256 (length xs) i ++ staged_joined (order_line n) booked (λ a. order_text.text a) (λ s a. refl) empty_book xs i

pub lines_more : (a : Asked) (xs : List Asked) → lines_text (a ∷ xs) ≡ order_text.text a ++ lines_text xs
unfolding lines_text
lines_more a xs = refl

pub lines_none : lines_text [] ≡ []
unfolding lines_text
lines_none = refl

-- the first order's line, and then the others'
pub lines_taken : (ps left : List Place) (s : ℕ) (a : Asked) → stamped 0 ps ≡ (s, a) ∷ stamped 0 left → lines_text (sequence ps) ≡ order_text.text a ++ lines_text (sequence left)
unfolding sequence
lines_taken ps left s a e = ap (λ xs. lines_text (unstamped xs)) e ∙ lines_more a (unstamped (stamped 0 left))

pub lines_end : (ps : List Place) → stamped 0 ps ≡ [] → lines_text (sequence ps) ≡ []
unfolding sequence
lines_end ps e = ap (λ xs. lines_text (unstamped xs)) e ∙ lines_none

pub ticks_length : (ts : List Tick) → length (tick_values ts) ≡ length ts
unfolding tick_values
ticks_length ts = length-map ts (λ (u : Tick). u.value)

pub day_text_is : (d : DayText) → day_text.text d ≡ hours_text.text d.references ++ (blocks_text.text d.sets ++ table_text d.orders)
unfolding day_text
day_text_is d = ap (λ t. hours_text.text d.references ++ (blocks_text.text d.sets ++ t)) (orders_text_is (length d.sets) d.orders)
