-- A day as it is written, the tables that a day can hold, and what becomes of their orders when the text is loaded.
use Rattle.std.specs.Prelude.{◌≡◌, ℕ, suc, ◌+◌, ◌≤◌, List, [], ◌∷◌, ◌++◌, length, Ok}
use Rattle.book.specs.Bids.{Asked, Place, vacant, held}
use Rattle.book.specs.Verdicts.{verdict}
use Rattle.book.specs.Places.{blocks_held}
use Rattle.text.specs.Format.{got}
use Rattle.text.specs.Staged.{left}
use Rattle.dayfile.specs.Day.{DayText, day_text, empty_book, booked}
use Rattle.dayfile.specs.Sequence.{order_at, stamped, sequence, numbered}

-- the day of some reference values, hour sets and a table
abbrev pub day_of : List ℕ → List ℕ → List Place → DayText
day_of refs sets ps = record { references = refs; sets = sets; orders = sequence ps }

-- the places after some orders have been entered into the empty table
abbrev pub table_of : List Asked → List Place
table_of xs = (left booked empty_book xs).places

-- they stand there in their sequence, under the stamps from 1 on
pub record Stands (xs : List Asked) : Type 0 where
  pub stamps : stamped 0 (table_of xs) ≡ numbered 0 xs
  pub orders : sequence (table_of xs) ≡ xs

-- each place, the first of which is row i, is vacant or holds an order that P holds of
abbrev pub Holding : (Asked → Type 0) → ℕ → List Place → Type 0
Holding P i [] = Unit {0}
Holding P i (vacant ∷ ps) = Holding P (suc i) ps
Holding P i (held b ∷ ps) = P (order_at i b) × Holding P (suc i) ps

-- a table that a day of n blocks can hold: no order of it is refused by itself, and at most 32 are blocks
pub record Proper (n : ℕ) (ps : List Place) : Type 0 where
  pub long : length ps ≡ 256
  pub lawful : Holding (λ a. verdict n a ≡ Ok tt) 0 ps
  pub few : blocks_held ps ≤ 32

-- a text at the place p that is accepted is, up to the place reached, the text of the day that it leaves
pub record Accepted (p : ℕ) (bs : List ℕ) (d : DayText) (q : ℕ) (cs : List ℕ) : Type 0 where
  pub text : bs ≡ day_text.text (day_of d.references d.sets (table_of d.orders)) ++ cs
  pub reached : q ≡ p + length (day_text.text (day_of d.references d.sets (table_of d.orders)))
  pub stands : Stands d.orders

abbrev pub LoadsItsText : Type 0
LoadsItsText = (l p : ℕ) (bs : List ℕ) (d : DayText) (q : ℕ) (cs : List ℕ) → day_text.read l p bs ≡ got d q cs → Accepted p bs d q cs

-- the text of a day is read back wherever it stands and whatever follows it, and leaves the same orders in the same sequence
pub record Returns (d : DayText) : Type 0 where
  pub loads : (l p : ℕ) (cs : List ℕ) → day_text.read l p (day_text.text d ++ cs) ≡ got d (p + length (day_text.text d)) cs
  pub stands : Stands d.orders
