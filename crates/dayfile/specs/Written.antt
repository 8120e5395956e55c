-- The text of a day as it is written, and what writing is answered.
use Rattle.std.specs.Prelude.{◌≡◌, ℕ, Bool, cond, not, ◌||◌, List, [], ◌∷◌, ◌++◌, length, drop, Ok, Err, codes, decimal, Result, ◌==◌, nat_lt, Option}
use Rattle.std.specs.List.{flat_map}
use Rattle.faults.specs.declared.fault.Fault.{Fault}
use Rattle.faults.specs.Answers.{wrong_length}
use Rattle.book.specs.Bids.{Asked}
use Rattle.book.specs.Views.{places, sets_of}
use Rattle.book.specs.declared.entries.Entry.{Entry}
use Rattle.dayfile.specs.declared.opening.Opening.{Opening}
use Rattle.dayfile.specs.Day.{DayText, day_text}
use Rattle.dayfile.specs.Lines.{order_text}
use Rattle.dayfile.specs.Views.{tick_values}
use Rattle.dayfile.specs.Entered.{day_of}

-- a line with a word and a number
abbrev pub headed : List ℕ → ℕ → List ℕ
headed w n = (w ++ (32 ∷ [])) ++ (decimal n ++ (10 ∷ []))

-- orders line by line
unfoldable pub lines_text : List Asked → List ℕ
lines_text xs = flat_map (λ a. order_text.text a) xs

-- the section of orders
abbrev pub table_text : List Asked → List ℕ
table_text xs = headed (codes "orders") (length xs) ++ lines_text xs

-- the day that an opening and a table hold, and its text
abbrev pub day_in : Opening → List (Option Entry) → DayText
day_in o rows = day_of (tick_values o.references) (sets_of o.blocks) (places rows)

unfoldable pub bytes_of : Opening → List (Option Entry) → List ℕ
bytes_of o rows = day_text.text (day_in o rows)

-- the table has another length than 256 rows, or the output is too short for the text
abbrev pub write_refused : ℕ → List ℕ → List ℕ → Bool
write_refused rows text out = not (rows == 256) || nat_lt (length out) (length text)

-- the number of bytes written, or the refusal
abbrev pub write_answer : ℕ → List ℕ → List ℕ → Result ℕ Fault
write_answer rows text out = cond (write_refused rows text out) (Err wrong_length) (Ok (length text))

-- the text over the first bytes of the output; a refused output stays as it was
abbrev pub output_after : ℕ → List ℕ → List ℕ → List ℕ
output_after rows text out = cond (write_refused rows text out) out (text ++ drop (length text) out)
