-- The text of a day: reference values, hour sets of the blocks, and orders, each section after its count.
use Rattle.std.specs.Prelude.{ℕ, ◌+◌, List, length, replicate, Ok, Err, codes, Result}
use Rattle.faults.specs.declared.fault.Fault.{Fault}
use Rattle.book.specs.Bids.{Asked, Place, vacant}
use Rattle.book.specs.Entering.{enter_answer, written}
use Rattle.book.specs.Verdicts.{verdict}
use Rattle.text.specs.Format.{Format, item, then, line, dressed}
use Rattle.text.specs.Items.{number, keyword}
use Rattle.text.specs.Staged.{Ruling, granted, denied, and_then, checked, staged, many}
use Rattle.dayfile.specs.Lines.{closing, order_text}

pub record DayText : Type 0 where
  pub references : List ℕ
  pub sets : List ℕ
  pub orders : List Asked

-- a line with a word and a count from low to high
abbrev pub count_items : List ℕ → ℕ → ℕ → Format (Unit {0} × ℕ)
count_items w low high = then (item (keyword w) 32) (λ _. item (number low high) 10)

unfoldable pub count_text : List ℕ → ℕ → ℕ → Format ℕ
count_text w low high = line (dressed (λ p. p.1) (λ n. (tt, n)) (count_items w low high))

-- a count, and then as many values
abbrev pub section : {A : Type 0} → Format ℕ → (ℕ → Format (List A)) → Format (List A)
section C F = dressed (λ p. p.1) (λ xs. (length xs, xs)) (then C F)

-- a reference value that k more follow in its line
abbrev pub tick_on : ℕ → Format ℕ
tick_on k = item (number 1 300000) (closing k)

abbrev pub tick_line : ℕ → Format (List ℕ)
tick_line n = line (many tick_on n)

unfoldable pub hours_text : Format (List ℕ)
hours_text = section (count_text (codes "hours") 24 24) tick_line

-- the hour set of a block, whatever follows it
abbrev pub set_line : ℕ → Format ℕ
set_line k = line (item (number 1 16777215) 10)

unfoldable pub blocks_text : Format (List ℕ)
blocks_text = section (count_text (codes "blocks") 0 14) (many set_line)

-- the order table, and how many stamps are given
pub record Book : Type 0 where
  pub places : List Place
  pub given : ℕ

unfoldable pub empty_places : List Place
empty_places = replicate 256 vacant

abbrev pub empty_book : Book
empty_book = record { places = empty_places; given = 0 }

-- an order under the next stamp
abbrev pub booked : Book → Asked → Book
booked b a = record { places = written b.places b.given a; given = b.given + 1 }

-- what an answer says of the order that it is given to
abbrev pub ruling : {A : Type 0} → Result A Fault → Ruling
ruling (Ok a) = granted
ruling (Err f) = denied f.refusal

-- the order's own refusals in a day of n blocks, and then the table's
unfoldable pub line_rule : ℕ → Book → Asked → Ruling
line_rule n b a = and_then (ruling (verdict n a)) (ruling (enter_answer b.places b.given a))

-- an order line, read when the book is b
abbrev pub order_line : ℕ → Book → Format Asked
order_line n b = line (checked (line_rule n b) order_text)

abbrev pub order_lines : ℕ → ℕ → Format (List Asked)
order_lines n = staged (order_line n) booked empty_book

-- the orders of a day of n blocks, each entered as its line is read
unfoldable pub orders_text : ℕ → Format (List Asked)
orders_text n = section (count_text (codes "orders") 0 256) (order_lines n)

abbrev pub day_items : Format (List ℕ × (List ℕ × List Asked))
day_items = then hours_text (λ _. then blocks_text (λ sets. orders_text (length sets)))

abbrev pub as_day : List ℕ × (List ℕ × List Asked) → DayText
as_day p = record { references = p.0; sets = p.1.0; orders = p.1.1 }

unfoldable pub day_text : Format DayText
day_text = dressed as_day (λ d. (d.references, (d.sets, d.orders))) day_items
