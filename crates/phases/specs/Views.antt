-- A day in one phase, with the tables lent to it, as a plain day.
use Rattle.std.specs.Prelude.{ℕ, Bool, cond, ◌&&◌, List, [], Ok, Err, Result, ◌==◌}
use Rattle.faults.specs.declared.fault.Fault.{Fault}
use Rattle.faults.specs.Answers.{wrong_length}
use Rattle.book.specs.Bids.{Place}
use Rattle.clearing.specs.declared.marks.Mark.{Mark}
use Rattle.clearing.specs.declared.results.HourResult.{HourResult}
use Rattle.dayfile.specs.Loading.{Head, head_of}
use Rattle.posting.specs.declared.fills.Fill.{Fill}
use Rattle.posting.specs.Posts.{listed}
use Rattle.day.specs.declared.phases.Phase.TheVariants as phase
use Rattle.day.specs.States.{State, no_results, no_marks}
use Rattle.day.specs.Views.{state_of}
use Rattle.phases.specs.declared.states.Open.{Open}
use Rattle.phases.specs.declared.states.Fixed.{Fixed}
use Rattle.phases.specs.declared.states.Post.{Post}
use Rattle.phases.specs.declared.states.Final.{Final}

-- an open day has no prices and no post fills, and a fixed one no post fills
abbrev pub open_day : Open → List Place → State
open_day s ps = state_of phase.Open s.opening ps no_results no_marks []

abbrev pub fixed_day : Fixed → List Place → List HourResult → List Mark → State
fixed_day s ps rs ms = state_of phase.Fixed s.opening ps rs ms []

abbrev pub post_day : Post → List Place → List HourResult → List Mark → List Fill → State
post_day s ps rs ms table = state_of phase.Post s.opening ps rs ms (listed s.posted table)

abbrev pub final_day : Final → List Place → List HourResult → List Mark → List Fill → State
final_day s ps rs ms table = state_of phase.Final s.opening ps rs ms (listed s.posted table)

-- what a load answers of an open day
abbrev pub open_head : Open → Head
open_head s = head_of s.opening

-- the number or the fault of an answer that hands a day back, and that day
abbrev pub said : {S T : Type 0} → Result (S × ℕ) (T × Fault) → Result ℕ Fault
said (Ok p) = Ok p.1
said (Err e) = Err e.1

abbrev pub handed : {S : Type 0} → Result (S × ℕ) (S × Fault) → S
handed (Ok p) = p.0
handed (Err e) = e.0

-- an answer over lent tables: other lengths are refused first
abbrev pub lent_right : Bool → Result ℕ Fault → Result ℕ Fault
lent_right right answer = cond right answer (Err wrong_length)

-- the lent tables have 24 results and 256 marks
abbrev pub right_prices : ℕ → ℕ → Bool
right_prices hours marks = hours == 24 && marks == 256
