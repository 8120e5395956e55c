-- What can be read of a day outside phase open.
use Rattle.std.specs.Prelude.{ℕ, ◌-◌, cond, List, Ok, Err, Result, ◌==◌}
use Rattle.faults.specs.declared.fault.Fault.{Fault}
use Rattle.faults.specs.declared.fault.Refusal.TheVariants.{WrongPhase}
use Rattle.faults.specs.Answers.{out_of_range, wrong_length}
use Rattle.faults.specs.Refusals.{fault}
use Rattle.curves.specs.Ranges.{bad_tick}
use Rattle.book.specs.Shown.{bad_hour}
use Rattle.clearing.specs.declared.results.HourResult.{HourResult}
use Rattle.clearing.specs.Results.{result_at}
use Rattle.day.specs.declared.phases.Phase.{Phase}
use Rattle.day.specs.States.{is_open}

-- what was read, or the refusal by the phase after all others
abbrev pub outside_open : {A : Type 0} → Phase → Result A Fault → Result A Fault
outside_open p (Ok x) = cond (is_open p) (Err (fault WrongPhase 0)) (Ok x)
outside_open p (Err f) = Err f

-- shares into a table of n rows; a price that is no tick stands in no day that can be reached outside phase open
abbrev pub shares_read : Phase → ℕ → List HourResult → ℕ → Result (Unit {0}) Fault
shares_read p n hours hour =
    cond (n == 256)
    (cond (bad_hour hour) (Err out_of_range) (cond (is_open p) (Err (fault WrongPhase 0)) (cond (bad_tick (result_at hours (hour - 1)).price) (Err out_of_range) (Ok tt))))
    (Err wrong_length)
