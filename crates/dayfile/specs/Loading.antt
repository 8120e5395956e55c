-- What loading a day answers, and what it leaves in the order table that it is lent.
use Rattle.std.specs.Prelude.{ℕ, Bool, cond, ◌&&◌, List, length, replicate, Ok, Err, Result, ◌==◌}
use Rattle.faults.specs.declared.fault.Fault.{Fault}
use Rattle.faults.specs.Answers.{wrong_length}
use Rattle.book.specs.Bids.{Place, vacant}
use Rattle.book.specs.Views.{sets_of}
use Rattle.text.specs.declared.reader.Reader.{Reader}
use Rattle.text.specs.Format.{Outcome, got, refused, onward}
use Rattle.text.specs.Staged.{left}
use Rattle.text.specs.Tokens.{ahead}
use Rattle.dayfile.specs.declared.opening.Opening.{Opening}
use Rattle.dayfile.specs.Day.{DayText, Book, empty_book, booked, day_text}
use Rattle.dayfile.specs.Views.{tick_values}

abbrev pub book_of : List Place → ℕ → Book
book_of ps n = record { places = ps; given = n }

-- an answer that counts the orders of a table
abbrev pub book_told : Result ℕ Fault → List Place → Reader → Outcome Book
book_told (Ok n) ps s = got (book_of ps n) s.at (ahead s)
book_told (Err f) ps s = refused f

-- a day as it is opened: its reference values, hour sets, order table and stamps given
pub record Opened : Type 0 where
  pub references : List ℕ
  pub sets : List ℕ
  pub book : Book

-- the orders are entered one after another into the empty table, with the stamps from 1 on
abbrev pub opened : DayText → Opened
opened d = record { references = d.references; sets = d.sets; book = left booked empty_book d.orders }

abbrev pub opened_by : List Place → Opening → Opened
opened_by ps o = record { references = tick_values o.references; sets = sets_of o.blocks; book = book_of ps o.given }

-- the lent tables have 256 rows, 24 hours, 256 marks and 128 post places
abbrev pub right_lengths : ℕ → ℕ → ℕ → ℕ → Bool
right_lengths rows hours marks posts = rows == 256 && (hours == 24 && (marks == 256 && posts == 128))

-- what the bytes at the place p say, if the lent tables have the right lengths
abbrev pub loading : Bool → ℕ → List ℕ → Outcome DayText
loading fits p bs = cond fits (day_text.read 0 p bs) (refused wrong_length)

-- what an accepted load answers: reference values, hour sets and the number of orders
pub record Head : Type 0 where
  pub references : List ℕ
  pub sets : List ℕ
  pub given : ℕ

abbrev pub head_of : Opening → Head
head_of o = record { references = tick_values o.references; sets = sets_of o.blocks; given = o.given }

abbrev pub head_in : DayText → Head
head_in d = record { references = d.references; sets = d.sets; given = length d.orders }

-- the answer, with the place reached and the input from there on
abbrev pub load_head : Outcome DayText → Outcome Head
load_head o = onward o (λ d q cs. got (head_in d) q cs)

-- the order table after a load: the orders in their rows; or all n rows empty
abbrev pub load_places : ℕ → Outcome DayText → List Place
load_places n (got d q cs) = (left booked empty_book d.orders).places
load_places n (refused f) = replicate n vacant
