-- The plain day behind a day of the code.
use Rattle.std.specs.Prelude.{ℕ, cond, List, length, Ok, Err, Result, ◌==◌, slice_set}
use Rattle.faults.specs.declared.fault.Fault.{Fault}
use Rattle.faults.specs.Answers.{wrong_length}
use Rattle.book.specs.Bids.{Asked, Place, held, bid_of}
use Rattle.book.specs.Drafted.{asked_of}
use Rattle.book.specs.Entering.{enter_answer, change_answer}
use Rattle.book.specs.Views.{places, sets_of}
use Rattle.dayfile.specs.Views.{tick_values}
use Rattle.book.specs.declared.drafts.Draft.{Draft}
use Rattle.calls.specs.declared.calls.Call.TheVariants.{Enter, Change}
use Rattle.calls.specs.Moves.{move_of}
use Rattle.clearing.specs.declared.marks.Mark.{Mark}
use Rattle.clearing.specs.declared.results.HourResult.{HourResult}
use Rattle.dayfile.specs.Day.{DayText, empty_book, booked}
use Rattle.text.specs.Staged.{left}
use Rattle.dayfile.specs.declared.opening.Opening.{Opening}
use Rattle.posting.specs.declared.fills.Fill.{Fill}
use Rattle.posting.specs.Posts.{listed}
use Rattle.day.specs.declared.days.Day.{Day}
use Rattle.day.specs.declared.phases.Phase.{Phase}
use Rattle.day.specs.Answers.{judged, first}
use Rattle.day.specs.States.{State, opened_with}

-- a phase, what the day began with, and the tables that stand with it
abbrev pub state_of : Phase → Opening → List Place → List HourResult → List Mark → List Fill → State
state_of p o ps rs ms fs = record { phase = p; references = tick_values o.references; sets = sets_of o.blocks; places = ps; given = o.given; results = rs; marks = ms; posts = fs }

-- the day that owns its tables
abbrev pub day_of : Day → State
day_of d = state_of d.phase d.opening (places d.rows) d.hours d.marks (listed d.posted d.posts)

-- a day as an accepted load opens it: its orders are entered one after another
abbrev pub opened_day : DayText → State
opened_day d = opened_with d.references d.sets (left booked empty_book d.orders).places (length d.orders)

-- an order by its draft, entered into or changed in some places of a day of n blocks
abbrev pub enter_draft : ℕ → List Place → ℕ → Draft → Result ℕ Fault
enter_draft n ps given d = first (judged n (move_of (Enter d))) (enter_answer ps given (asked_of d))

abbrev pub change_draft : ℕ → List Place → ℕ → Draft → Result ℕ Fault
change_draft n ps given d = first (judged n (move_of (Change d))) (change_answer ps given (asked_of d))

-- the places, and the number of stamps given, after such a call was answered
abbrev pub places_after : Asked → Result ℕ Fault → List Place → List Place
places_after a (Ok n) ps = slice_set ps a.row (held (bid_of a n))
places_after a (Err f) ps = ps

abbrev pub given_after : Result ℕ Fault → ℕ → ℕ
given_after (Ok n) given = n
given_after (Err f) given = given

-- with a table of n rows lent: another length is refused first, and nothing is written
abbrev pub lent_to : {A : Type 0} → ℕ → Result A Fault → Result A Fault
lent_to n answer = cond (n == 256) answer (Err wrong_length)
