-- What each call is answered, and the day after it.
use Rattle.std.specs.Prelude.{ℕ, ◌+◌, Bool, cond, not, ◌||◌, List, [], ◌∷◌, ◌++◌, length, Ok, Err, Result, slice_set}
use Rattle.faults.specs.declared.fault.Fault.{Fault}
use Rattle.faults.specs.declared.fault.Refusal.TheVariants.{WrongPhase}
use Rattle.faults.specs.Answers.{out_of_range}
use Rattle.faults.specs.Refusals.{fault}
use Rattle.book.specs.Bids.{Asked, vacant, held, bid_of}
use Rattle.book.specs.Conditions.{Condition, when, decide}
use Rattle.book.specs.Entering.{enter_refusals, change_refusals, withdraw_refusals}
use Rattle.book.specs.Verdicts.{verdict, bad_row, bad_member}
use Rattle.clearing.specs.Clearing.{Clearing, clearing_of}
use Rattle.calls.specs.declared.posts.PostOrder.{PostOrder}
use Rattle.calls.specs.Moves.{Move, entering, changing, withdrawing, fixing, recalling, confirming, posting, finishing, overfull}
use Rattle.posting.specs.Posts.{post_verdict, post_refusals, fill_of, fill_with}
use Rattle.day.specs.declared.phases.Phase.{Phase}
use Rattle.day.specs.declared.phases.Phase.TheVariants.{Open, Fixed, Post, Final}
use Rattle.day.specs.States.{State, no_results, no_marks, is_open, is_fixed, is_post}

-- the refusal of a call by its own numbers and its order alone, in a day of n blocks
abbrev pub judged : ℕ → Move → Result (Unit {0}) Fault
judged n (entering a) = verdict n a
judged n (changing a) = verdict n a
judged n (withdrawing r m) = cond (bad_row r || bad_member m) (Err out_of_range) (Ok tt)
judged n fixing = Ok tt
judged n recalling = Ok tt
judged n confirming = Ok tt
judged n (posting o) = post_verdict o
judged n finishing = Ok tt
judged n overfull = Err out_of_range

-- does the phase have the call?
abbrev pub offers : Phase → Move → Bool
offers p (entering a) = is_open p
offers p (changing a) = is_open p
offers p (withdrawing r m) = is_open p
offers p fixing = is_open p
offers p recalling = is_fixed p
offers p confirming = is_fixed p
offers p (posting o) = is_post p
offers p finishing = is_post p
offers p overfull = is_open p

-- the refusals that a call of the phase meets in the day's tables, in their sequence
abbrev pub further : State → Move → List Condition
further d (entering a) = enter_refusals d.places d.given a
further d (changing a) = change_refusals d.places d.given a
further d (withdrawing r m) = withdraw_refusals d.places r m
further d fixing = []
further d recalling = []
further d confirming = []
further d (posting o) = post_refusals d.results d.posts o
further d finishing = []
further d overfull = []

abbrev pub refusals : State → Move → List Condition
refusals d m = when (not (offers d.phase m)) WrongPhase ∷ further d m

-- the clearing of the day's orders
abbrev pub clearing_in : State → Clearing
clearing_in d = clearing_of d.places d.sets d.references

-- what a granted call is answered: the stamp, the rounds, the fill or 0
abbrev pub value : State → Move → ℕ
value d (entering a) = d.given + 1
value d (changing a) = d.given + 1
value d (withdrawing r m) = 0
value d fixing = (clearing_in d).rounds
value d recalling = 0
value d confirming = 0
value d (posting o) = fill_of d.results d.posts o
value d finishing = 0
value d overfull = 0

-- the first of a call's own refusal and what comes after
abbrev pub first : {A : Type 0} → Result (Unit {0}) Fault → Result A Fault → Result A Fault
first (Ok u) x = x
first (Err f) x = Err f

-- what a call is refused by in a phase that does not have it
abbrev pub out_of_phase : Result (Unit {0}) Fault → Fault
out_of_phase (Ok u) = fault WrongPhase 0
out_of_phase (Err f) = f

-- the answer: the first refusal whose condition holds, else the value
abbrev pub answer : State → Move → Result ℕ Fault
answer d m = first (judged (length d.sets) m) (decide (refusals d m) (value d m))

-- the row written under the stamp n, and the row emptied
abbrev pub written : State → Asked → ℕ → State
written d a n = record { phase = d.phase; references = d.references; sets = d.sets; places = slice_set d.places a.row (held (bid_of a n)); given = n; results = d.results; marks = d.marks; posts = d.posts }

abbrev pub emptied : State → ℕ → State
emptied d r = record { phase = d.phase; references = d.references; sets = d.sets; places = slice_set d.places r vacant; given = d.given; results = d.results; marks = d.marks; posts = d.posts }

-- the day in another phase, and with the results and marks of its clearing or none
abbrev pub turned : State → Phase → State
turned d p = record { phase = p; references = d.references; sets = d.sets; places = d.places; given = d.given; results = d.results; marks = d.marks; posts = d.posts }

abbrev pub fixed : State → State
fixed d = record { phase = Fixed; references = d.references; sets = d.sets; places = d.places; given = d.given; results = (clearing_in d).results; marks = (clearing_in d).marks; posts = d.posts }

abbrev pub recalled : State → State
recalled d = record { phase = Open; references = d.references; sets = d.sets; places = d.places; given = d.given; results = no_results; marks = no_marks; posts = d.posts }

-- one fill more in the post list
abbrev pub filled : State → PostOrder → ℕ → State
filled d o v = record { phase = d.phase; references = d.references; sets = d.sets; places = d.places; given = d.given; results = d.results; marks = d.marks; posts = d.posts ++ (fill_with o v ∷ []) }

-- what a granted call leaves, by what it was answered
abbrev pub granted : State → Move → ℕ → State
granted d (entering a) n = written d a n
granted d (changing a) n = written d a n
granted d (withdrawing r m) n = emptied d r
granted d fixing n = fixed d
granted d recalling n = recalled d
granted d confirming n = turned d Post
granted d (posting o) n = filled d o n
granted d finishing n = turned d Final
granted d overfull n = d

-- what an answered call leaves: a refused one leaves the day as it was
abbrev pub left : State → Move → Result ℕ Fault → State
left d m (Ok n) = granted d m n
left d m (Err f) = d

abbrev pub after : State → Move → State
after d m = left d m (answer d m)
