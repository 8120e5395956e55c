-- The law of a day, in the auction's words: what its history says of its orders, its phase, its prices and its post list.
use Rattle.std.specs.Prelude.{◌≡◌, ℕ, ◌+◌, ◌-◌, ◌<◌, ◌≤◌, Bool, true, false, ◌&&◌, List, ◌∷◌, ◌++◌, length, All, is_some, Some, Ok, sum, Result}
use Rattle.faults.specs.declared.fault.Fault.{Fault}
use Rattle.curves.specs.declared.sides.Side.{Side}
use Rattle.book.specs.Bids.{vacant}
use Rattle.book.specs.Places.{place_at}
use Rattle.book.specs.Shown.{same_side}
use Rattle.calls.specs.Moves.{fixing}
use Rattle.clearing.specs.Hours.{day_hours}
use Rattle.clearing.specs.Results.{result_at}
use Rattle.clearing.specs.Clearing.{clearing_of}
use Rattle.clearing.specs.Fixing.{Stamped, BlocksCleared, HoursPriced}
use Rattle.clearing.specs.Sharing.{shares_on, HourShared}
use Rattle.dayfile.specs.Entered.{Proper}
use Rattle.posting.specs.Posts.{filled_in, filled_on}
use Rattle.day.specs.declared.phases.Phase.{Phase}
use Rattle.day.specs.declared.phases.Phase.TheVariants.{Open}
use Rattle.day.specs.States.{State, no_results, no_marks, is_open}
use Rattle.day.specs.Answers.{answer, clearing_in}
use Rattle.history.specs.Events.{Event, is_granted, order_written, phase_led, is_recall}
use Rattle.history.specs.Told.{stamps_given, touches, put_under, table_told, posts_told, state_told}

-- a granted fix, recall, confirm or finish
abbrev pub leads : Event → Bool
leads e = is_granted e && is_some (phase_led e.move)

abbrev pub recalls : Event → Bool
recalls e = is_granted e && is_recall e.move

-- Wherever prices stand. Hours are counted from 0 here.
pub record Standing (d : State) : Type 0 where
  -- results and marks are those of clearing the day's orders
  pub results : d.results ≡ (clearing_in d).results
  pub marks : d.marks ≡ (clearing_in d).marks
  -- best price: in every hour, over its orders and the blocks that stand
  pub priced : HoursPriced d.places d.sets d.references (clearing_in d).rounds d.results d.marks
  -- blocks: each drop by the marks, rounds one more than the dropped, at most 33
  pub blocks : BlocksCleared d.places d.sets d.references (clearing_in d).rounds d.results d.marks
  pub rounds : (clearing_in d).rounds ≤ 33
  -- priority: the one share rule on each side of every hour, whole blocks, everybody full on the side without the surplus
  pub shared : (h : ℕ) → h < day_hours → HourShared d.places d.sets d.marks h (result_at d.results h) (filled_in (h + 1) d.posts)
  -- balance: on either side of every hour, shares and that side's post fills are the executed volume and the hour's post fills
  pub balance : (h : ℕ) → h < day_hours → (side : Side)
      → sum (shares_on d.places d.sets d.marks h (result_at d.results h) (filled_in (h + 1) d.posts) side) + filled_on side (h + 1) d.posts
      ≡ (result_at d.results h).executed + filled_in (h + 1) d.posts
  -- post fills never exceed the surplus, and stand on the side opposite to it
  pub within : (h : ℕ) → h < day_hours → filled_in (h + 1) d.posts ≤ (result_at d.results h).surplus
  pub opposite : All (λ f. same_side f.side (result_at d.results (f.hour - 1)).side ≡ false) d.posts

module _ (refs sets : List ℕ) where
  -- a fix that was granted after the history `earlier`, where no recall was granted since
  pub record SinceFix (earlier : List Event) (answered : Result ℕ Fault) (d : State) : Type 0 where
    pub orders : d.places ≡ table_told earlier
    pub results : d.results ≡ (clearing_of (table_told earlier) sets refs).results
    pub marks : d.marks ≡ (clearing_of (table_told earlier) sets refs).marks
    pub rounds : answered ≡ Ok (clearing_of (table_told earlier) sets refs).rounds
    pub stands : is_open d.phase ≡ false

  pub record DayLaw (h : List Event) (d : State) : Type 0 where
    -- a row that no granted call names is empty
    pub untouched : (k : ℕ) → k < 256 → All (λ e. touches k e ≡ false) h → place_at d.places k ≡ vacant
    -- the last granted call that names a row decides what it holds; its stamp is the number of enters and changes granted up to it
    pub last : (k : ℕ) → k < 256 → (later : List Event) (e : Event) (earlier : List Event) → h ≡ later ++ (e ∷ earlier)
        → All (λ x. touches k x ≡ false) later → touches k e ≡ true
        → place_at d.places k ≡ put_under (stamps_given (e ∷ earlier)) (order_written e.move)
    pub stamps : d.given ≡ stamps_given h
    -- the phase is open at first, and then where the last granted fix, recall, confirm or finish led
    pub opens : All (λ e. leads e ≡ false) h → d.phase ≡ Open
    pub led : (later : List Event) (e : Event) (earlier : List Event) (p : Phase) → h ≡ later ++ (e ∷ earlier)
        → All (λ x. leads x ≡ false) later → is_granted e ≡ true → phase_led e.move ≡ Some p → d.phase ≡ p
    -- in phase open results and marks are zero
    pub none : is_open d.phase ≡ true → (d.results ≡ no_results) × (d.marks ≡ no_marks)
    -- from a granted fix to the next granted recall they are those of clearing the orders at that fix, whose answer is the number of rounds
    pub fixed : (later : List Event) (e : Event) (earlier : List Event) → h ≡ later ++ (e ∷ earlier)
        → All (λ x. recalls x ≡ false) later → is_granted e ≡ true → e.move ≡ fixing → SinceFix earlier e.answer d
    -- the post list is the granted posts in sequence with their fills
    pub posts : d.posts ≡ posts_told h
    -- each answer is the first refusal, in the rules' sequence, whose condition holds of the history before it, or the value granted
    pub answered : (later : List Event) (e : Event) (earlier : List Event) → h ≡ later ++ (e ∷ earlier) → e.answer ≡ answer (state_told refs sets earlier) e.move
    -- no two orders have one stamp, and the table is one that can be written and read back
    pub stamped : Stamped d.places
    pub proper : Proper (length sets) d.places
    -- outside phase open prices stand
    pub prices : is_open d.phase ≡ false → Standing d
