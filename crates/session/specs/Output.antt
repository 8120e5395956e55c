-- What the program prints for its input: the answers to the calls, and what is published of a finished day.
use Rattle.std.specs.Prelude.{ℕ, cond, List, [], ◌++◌, map, length, Some, None, Option, Result, nat_lt}
use Rattle.faults.specs.declared.fault.Fault.{Fault}
use Rattle.faults.specs.Answers.{wrong_length}
use Rattle.text.specs.Format.{Outcome, got, refused}
use Rattle.dayfile.specs.Day.{DayText, day_text}
use Rattle.calls.specs.Moves.{Move}
use Rattle.callfile.specs.Scripts.{Script, calls_of}
use Rattle.report.specs.Lines.{refused_line, answer_lines}
use Rattle.report.specs.Final.{final_text}
use Rattle.day.specs.declared.phases.Phase.{Phase}
use Rattle.day.specs.declared.phases.Phase.TheVariants.{Open, Fixed, Post, Final}
use Rattle.day.specs.States.{State}
use Rattle.history.specs.Events.{recorded, loaded}
use Rattle.history.specs.Told.{state_told, answers_told}

-- a day that is final is published
abbrev pub published_of : State → Phase → List ℕ
published_of d Open = []
published_of d Fixed = []
published_of d Post = []
published_of d Final = final_text d.places d.sets d.results d.marks d.posts

-- after the last answer: the fault of the text that ended the reading, or else what is published
abbrev pub end_text : Option Fault → State → List ℕ
end_text (Some f) d = refused_line f
end_text None d = published_of d d.phase

-- the calls of an accepted load, each with the place of its line
module _ (d : DayText) (script : Script) where
  abbrev pub moves_of : List Move
  moves_of = map (λ x. x.1) script.steps

  abbrev pub answers_of : List (Result ℕ Fault)
  answers_of = answers_told d.references d.sets (loaded 0 d.orders []) moves_of

  -- the day that they lead to, as its history tells it
  abbrev pub day_after : State
  day_after = state_told d.references d.sets (recorded moves_of answers_of (loaded 0 d.orders []))

  unfoldable pub script_text : List ℕ
  script_text = answer_lines (map (λ x. x.0) script.steps) answers_of ++ end_text script.fault day_after

abbrev pub load_text : Outcome DayText → List ℕ
load_text (got d q cs) = script_text d (calls_of q cs)
load_text (refused f) = refused_line f

-- at most 65,536 bytes are read
unfoldable pub output : List ℕ → List ℕ
output bs = cond (nat_lt 65536 (length bs)) (refused_line wrong_length) (load_text (day_text.read 0 0 bs))
