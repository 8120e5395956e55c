use Rattle.std.proofs.Common.{List}
use Rattle.calls.specs.Moves.{moves}
use Rattle.day.specs.Views.{day_of}
use Rattle.history.specs.Events.{Event}
use Rattle.history.specs.Runs.{IsTold}
use Rattle.history.proofs.Playing.{Playing}
use Rattle.history.proofs.running.play.Given as goal

abbrev pub invariant-loop-i : goal.invariant-loop-i
invariant-loop-i l =
    (h : List Event) → IsTold h (day_of l.initial.day) → Playing (day_of l.initial.day).references (day_of l.initial.day).sets h (moves l.calls) l.answers l.i (day_of l.day)
