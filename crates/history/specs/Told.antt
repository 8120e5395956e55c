-- What a day holds, told from its history alone.
use Rattle.std.specs.Prelude.{◌≡◌, ℕ, ◌+◌, Bool, false, cond, ◌&&◌, List, [], ◌∷◌, ◌++◌, map, is_some, Some, None, Ok, Err, Option, Result, ◌==◌}
use Rattle.std.specs.List.{range_with_len}
use Rattle.faults.specs.declared.fault.Fault.{Fault}
use Rattle.book.specs.Bids.{Asked, Place, vacant, held, bid_of}
use Rattle.calls.specs.Moves.{Move, entering, changing, withdrawing, fixing, recalling, confirming, posting, finishing, overfull}
use Rattle.clearing.specs.declared.marks.Mark.{Mark}
use Rattle.clearing.specs.declared.results.HourResult.{HourResult}
use Rattle.clearing.specs.Clearing.{clearing_of}
use Rattle.posting.specs.declared.fills.Fill.{Fill}
use Rattle.posting.specs.Posts.{fill_with}
use Rattle.day.specs.declared.phases.Phase.{Phase}
use Rattle.day.specs.declared.phases.Phase.TheVariants.{Open}
use Rattle.day.specs.States.{State, no_results, no_marks}
use Rattle.day.specs.Answers.{answer}
use Rattle.history.specs.Events.{Event, event, is_granted, row_named, order_written, phase_led}

-- how many enters and changes were granted
abbrev pub stamps_given : List Event → ℕ
stamps_given [] = 0
stamps_given (e ∷ h) = cond (is_granted e && is_some (order_written e.move)) (stamps_given h + 1) (stamps_given h)

abbrev pub is_row : ℕ → Option ℕ → Bool
is_row k None = false
is_row k (Some r) = r == k

-- a granted call that names row k
abbrev pub touches : ℕ → Event → Bool
touches k e = is_granted e && is_row k (row_named e.move)

-- what a call that names a row leaves there: its order under the stamp n, or nothing
abbrev pub put_under : ℕ → Option Asked → Place
put_under n None = vacant
put_under n (Some a) = held (bid_of a n)

-- the last granted call that names a row decides; its stamp is the number of enters and changes granted up to it
abbrev pub row_told : ℕ → List Event → Place
row_told k [] = vacant
row_told k (e ∷ h) = cond (touches k e) (put_under (stamps_given (e ∷ h)) (order_written e.move)) (row_told k h)

-- the order table, row by row
unfoldable pub table_told : List Event → List Place
table_told h = map (λ k. row_told k h) (range_with_len 0 256)

abbrev pub led_to : Option Phase → Phase → Phase
led_to None p = p
led_to (Some q) p = q

-- where the last granted fix, recall, confirm or finish led
abbrev pub phase_told : List Event → Phase
phase_told [] = Open
phase_told (e ∷ h) = cond (is_granted e) (led_to (phase_led e.move) (phase_told h)) (phase_told h)

-- a granted fix sets anew, a granted recall sets to none, every other call keeps the old
abbrev pub set_by : {A : Type 0} → Move → A → A → A → A
set_by (entering a) new none old = old
set_by (changing a) new none old = old
set_by (withdrawing r m) new none old = old
set_by fixing new none old = new
set_by recalling new none old = none
set_by confirming new none old = old
set_by (posting o) new none old = old
set_by finishing new none old = old
set_by overfull new none old = old

-- what a day has at the last granted fix, `at` of the history before it; none before the first and after a granted recall
abbrev pub since_fix : {A : Type 0} → (List Event → A) → A → List Event → A
since_fix at none [] = none
since_fix at none (e ∷ h) = cond (is_granted e) (set_by e.move (at h) none (since_fix at none h)) (since_fix at none h)

-- what a call with its answer adds to the post list
abbrev pub fill_by : Move → Result ℕ Fault → List Fill
fill_by (entering a) r = []
fill_by (changing a) r = []
fill_by (withdrawing k m) r = []
fill_by fixing r = []
fill_by recalling r = []
fill_by confirming r = []
fill_by (posting o) (Ok v) = fill_with o v ∷ []
fill_by (posting o) (Err f) = []
fill_by finishing r = []
fill_by overfull r = []

-- the granted posts in their sequence, with their fills
abbrev pub posts_told : List Event → List Fill
posts_told [] = []
posts_told (e ∷ h) = posts_told h ++ fill_by e.move e.answer

module _ (refs sets : List ℕ) where
  abbrev pub results_told : List Event → List HourResult
  results_told h = since_fix (λ earlier. (clearing_of (table_told earlier) sets refs).results) no_results h

  abbrev pub marks_told : List Event → List Mark
  marks_told h = since_fix (λ earlier. (clearing_of (table_told earlier) sets refs).marks) no_marks h

  -- the day that a history tells
  abbrev pub state_told : List Event → State
  state_told h = record { phase = phase_told h; references = refs; sets = sets; places = table_told h; given = stamps_given h; results = results_told h; marks = marks_told h; posts = posts_told h }

  -- each call was answered by the first refusal, in the rules' sequence, whose condition holds of the history before it, or else granted its value
  abbrev pub Answered : List Event → Type 0
  Answered [] = Unit {0}
  Answered (e ∷ h) = (e.answer ≡ answer (state_told h) e.move) × Answered h

  -- the answers to some calls after the history h
  abbrev pub answers_told : List Event → List Move → List (Result ℕ Fault)
  answers_told h [] = []
  answers_told h (m ∷ ms) = answer (state_told h) m ∷ answers_told (event m (answer (state_told h) m) ∷ h) ms
