-- The history of a day: its calls with their answers, the latest first.
use Rattle.std.specs.Prelude.{ℕ, ◌+◌, Bool, true, false, List, [], ◌∷◌, is_ok, Some, None, Ok, Option, Result}
use Rattle.faults.specs.declared.fault.Fault.{Fault}
use Rattle.book.specs.Bids.{Asked}
use Rattle.calls.specs.Moves.{Move, entering, changing, withdrawing, fixing, recalling, confirming, posting, finishing, overfull}
use Rattle.day.specs.declared.phases.Phase.{Phase}
use Rattle.day.specs.declared.phases.Phase.TheVariants.{Open, Fixed, Post, Final}

pub record Event : Type 0 where
  pub move : Move
  pub answer : Result ℕ Fault

abbrev pub event : Move → Result ℕ Fault → Event
event m r = record { move = m; answer = r }

abbrev pub is_granted : Event → Bool
is_granted e = is_ok e.answer

-- the history h, and then some calls with their answers
abbrev pub recorded : List Move → List (Result ℕ Fault) → List Event → List Event
recorded [] rs h = h
recorded (m ∷ ms) [] h = h
recorded (m ∷ ms) (r ∷ rs) h = recorded ms rs (event m r ∷ h)

-- a load's orders are taken as by enter: after g of them, each is granted the next stamp
abbrev pub loaded : ℕ → List Asked → List Event → List Event
loaded g [] h = h
loaded g (a ∷ xs) h = loaded (g + 1) xs (event (entering a) (Ok (g + 1)) ∷ h)

-- the row that a call names
abbrev pub row_named : Move → Option ℕ
row_named (entering a) = Some a.row
row_named (changing a) = Some a.row
row_named (withdrawing r m) = Some r
row_named fixing = None
row_named recalling = None
row_named confirming = None
row_named (posting o) = None
row_named finishing = None
row_named overfull = None

-- the order that a call writes
abbrev pub order_written : Move → Option Asked
order_written (entering a) = Some a
order_written (changing a) = Some a
order_written (withdrawing r m) = None
order_written fixing = None
order_written recalling = None
order_written confirming = None
order_written (posting o) = None
order_written finishing = None
order_written overfull = None

-- the phase that a call leads to
abbrev pub phase_led : Move → Option Phase
phase_led (entering a) = None
phase_led (changing a) = None
phase_led (withdrawing r m) = None
phase_led fixing = Some Fixed
phase_led recalling = Some Open
phase_led confirming = Some Post
phase_led (posting o) = None
phase_led finishing = Some Final
phase_led overfull = None

abbrev pub is_recall : Move → Bool
is_recall (entering a) = false
is_recall (changing a) = false
is_recall (withdrawing r m) = false
is_recall fixing = false
is_recall recalling = true
is_recall confirming = false
is_recall (posting o) = false
is_recall finishing = false
is_recall overfull = false
