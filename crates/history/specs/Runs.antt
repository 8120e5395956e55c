-- A whole run: a load and any list of calls.
use Rattle.std.specs.Prelude.{◌≡◌, ℕ, ◌≤◌, Bool, true, false, List, [], length, take, Ok, Err, Result}
use Rattle.faults.specs.declared.fault.Fault.{Fault}
use Rattle.faults.specs.Answers.{wrong_length}
use Rattle.calls.specs.Moves.{Move}
use Rattle.dayfile.specs.Day.{DayText}
use Rattle.text.specs.Format.{Outcome, got, refused}
use Rattle.day.specs.States.{State}
use Rattle.history.specs.Events.{Event, recorded, loaded}
use Rattle.history.specs.Told.{state_told, Answered, answers_told}
use Rattle.history.specs.Law.{DayLaw}

-- the calls ms were answered rs after the history h, and left the day s; the law holds before them and after every one of them
pub record Played (refs sets : List ℕ) (h : List Event) (ms : List Move) (rs : List (Result ℕ Fault)) (s : State) : Type 0 where
  pub all : length rs ≡ length ms
  pub answers : rs ≡ answers_told refs sets h ms
  pub day : s ≡ state_told refs sets (recorded ms rs h)
  pub every : (n : ℕ) → n ≤ length ms → DayLaw refs sets (recorded (take n ms) (take n rs) h) (state_told refs sets (recorded (take n ms) (take n rs) h))

-- a day that its history tells
pub record IsTold (h : List Event) (d : State) : Type 0 where
  pub state : d ≡ state_told d.references d.sets h
  pub answered : Answered d.references d.sets h
  pub hours : length d.references ≡ 24

-- what a run answers to what its text says: the day that the calls lead to, or the load's refusal with the answers untouched
abbrev pub Ran : Outcome DayText → List Move → List (Result ℕ Fault) → List (Result ℕ Fault) → Result State Fault → Type 0
Ran (got d q cs) ms old rs (Ok s) = Played d.references d.sets (loaded 0 d.orders []) ms rs s
Ran (got d q cs) ms old rs (Err f) = ⊥
Ran (refused g) ms old rs (Ok s) = ⊥
Ran (refused g) ms old rs (Err f) = (f ≡ g) × (rs ≡ old)

-- as many answers as calls are lent, else nothing is done
abbrev pub RanIf : Bool → Outcome DayText → List Move → List (Result ℕ Fault) → List (Result ℕ Fault) → Result State Fault → Type 0
RanIf true o ms old rs r = Ran o ms old rs r
RanIf false o ms old rs r = (r ≡ Err wrong_length) × (rs ≡ old)
