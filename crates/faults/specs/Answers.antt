-- Answers of calls that may be refused: the value seen another way, and what a test of the input leaves of it.
use Rattle.std.specs.Prelude.{Ok, Err, Result}
use Rattle.faults.specs.declared.fault.Fault.{Fault}
use Rattle.faults.specs.declared.fault.Refusal.TheVariants.{OutOfRange, WrongLength}
use Rattle.faults.specs.Refusals.{fault}

-- the answer with f of its value
abbrev pub viewed : {A B : Type 0} → (A → B) → Result A Fault → Result B Fault
viewed f (Ok a) = Ok (f a)
viewed f (Err e) = Err e

-- a where the test grants it, else the test's fault
abbrev pub granting : {A : Type 0} → Result (Unit {0}) Fault → A → Result A Fault
granting (Ok _) a = Ok a
granting (Err e) a = Err e

-- a number outside its range, and a table of the wrong length, in a call without text
abbrev pub out_of_range : Fault
out_of_range = fault (OutOfRange 0) 0

abbrev pub wrong_length : Fault
wrong_length = fault WrongLength 0
