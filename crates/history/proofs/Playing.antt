-- Calls one after another: what the history of the first of them tells.
use Rattle.std.proofs.Common.{◌≡◌, ℕ, ◌+◌, ◌-◌, ◌<◌, ◌≤◌, List, [], ◌∷◌, ◌++◌, length, get_or, take, set, Result, sym, refl, ap, ◌∙◌, subst, inl, inr, arith, length-take}
use lib.Seq.{take-set-le}
use Rattle.std.specs.List.{AllByRecursion}
use Rattle.std.proofs.lemmas.List.{take_more, take_more_set, take_all, length-map, get_or-map}
use Rattle.std.proofs.lemmas.Bool.Decides.{leb_tells}
use Rattle.faults.specs.declared.fault.Fault.{Fault}
use Rattle.book.specs.Places.{blocks_held}
use Rattle.book.specs.Views.{places}
use Rattle.dayfile.specs.Views.{tick_values}
use Rattle.book.proofs.Placed.{placed_length}
use Rattle.curves.specs.declared.ticks.Tick.{Tick}
use Rattle.calls.specs.declared.calls.Call.{Call}
use Rattle.calls.specs.Moves.{Move, move_of, moves}
use Rattle.clearing.specs.Results.{result_at}
use Rattle.clearing.specs.Fixing.{Stamped}
use Rattle.day.specs.declared.days.Day.{Day}
use Rattle.day.specs.States.{State}
use Rattle.day.specs.Answers.{answer, left, clearing_in}
use Rattle.day.specs.Views.{day_of}
use Rattle.posting.specs.Posts.{listed, filled_in}
use Rattle.history.specs.Events.{Event, event, recorded}
use Rattle.history.specs.Told.{table_told, state_told, Answered, answers_told}
use Rattle.history.specs.Law.{Standing, DayLaw}
use Rattle.history.specs.Runs.{Played}
use Rattle.history.proofs.Rows.{table_length}
use Rattle.history.proofs.Steps.{told_step}
use Rattle.history.proofs.Phased.{phased}
use Rattle.history.proofs.Fills.{fits_told, Facing}
use Rattle.history.proofs.Orders.{ordered_told}
use Rattle.history.proofs.Standings.{standing}
use Rattle.history.proofs.Lawful.{stamped_told, law_told}

-- one call more at the end
recorded_push : (ms : List Move) (rs : List (Result ℕ Fault)) (m : Move) (r : Result ℕ Fault) (h : List Event) → length rs ≡ length ms → recorded (ms ++ (m ∷ [])) (rs ++ (r ∷ [])) h ≡ event m r ∷ recorded ms rs h
recorded_push [] [] m r h e = refl
recorded_push [] (x ∷ rs) m r h e = absurd (omega arith)
recorded_push (y ∷ ms) [] m r h e = absurd (omega arith)
recorded_push (y ∷ ms) (x ∷ rs) m r h e = recorded_push ms rs m r (event y x ∷ h) (omega arith)

-- the history of the first n calls
abbrev pub firsts : List Move → List (Result ℕ Fault) → List Event → ℕ → List Event
firsts ms rs h n = recorded (take n ms) (take n rs) h

firsts_more : (ms : List Move) (rs : List (Result ℕ Fault)) (h : List Event) (i : ℕ) (d : Move) (r : Result ℕ Fault) → i < length ms → length rs ≡ length ms → firsts ms (set rs i r) h (i + 1) ≡ event (get_or ms i d) r ∷ firsts ms rs h i
firsts_more ms rs h i d r l n =
    let li : i < length rs = omega arith in
    (λ j. recorded (take_more ms i d l j) (take_more_set rs i r li j) h)
    ∙ recorded_push (take i ms) (take i rs) (get_or ms i d) r h (omega (arith, length-take i ms, length-take i rs))

ticks_length : (ts : List Tick) → length (tick_values ts) ≡ length ts
unfolding tick_values
ticks_length ts = length-map ts (λ t. t.value)

-- the law of a day of the code that its history tells
pub day_law : (d : Day) (h : List Event) (refs sets : List ℕ) → length refs ≡ 24 → day_of d ≡ state_told refs sets h → Answered refs sets h → DayLaw refs sets h (state_told refs sets h)
day_law d h refs sets whole is a =
    let long : length d.opening.references ≡ 24 = sym (ticks_length d.opening.references) ∙ ap (λ (s : State). length s.references) is ∙ whole in
    let told = state_told refs sets h in
    let table : places d.rows ≡ table_told h = ap (λ (s : State). s.places) is in
    let rows : length d.rows ≡ 256 = sym (placed_length d.rows) ∙ ap length table ∙ table_length h in
    let at : (P : State → Type 0) → P told → P (day_of d) = λ P x. subst P (sym is) x in
    law_told refs sets h a (λ closed.
    subst Standing is (standing d.phase d.opening d.rows d.hours d.marks (listed d.posted d.posts) rows long
    (at (λ s. s.results ≡ (clearing_in s).results) ((phased refs sets h a).cleared closed).0)
    (at (λ s. s.marks ≡ (clearing_in s).marks) ((phased refs sets h a).cleared closed).1)
    (at (λ s. Stamped s.places) (stamped_told refs sets h a))
    (at (λ s. blocks_held s.places ≤ 32) (ordered_told refs sets h a).few)
    (at (λ s. (hour : ℕ) → filled_in hour s.posts ≤ (result_at s.results (hour - 1)).surplus) (fits_told refs sets h a).within)
    (at (λ s. AllByRecursion (Facing s.results) s.posts) (fits_told refs sets h a).opposite)))

-- answers that the history tells are a function of the calls
answered_tail : (refs sets : List ℕ) (ms : List Move) (rs : List (Result ℕ Fault)) (h : List Event) → Answered refs sets (recorded ms rs h) → Answered refs sets h
answered_tail refs sets [] rs h a = a
answered_tail refs sets (m ∷ ms) [] h a = a
answered_tail refs sets (m ∷ ms) (r ∷ rs) h a = (answered_tail refs sets ms rs (event m r ∷ h) a).1

answers_are_told : (refs sets : List ℕ) (ms : List Move) (rs : List (Result ℕ Fault)) (h : List Event) → length rs ≡ length ms → Answered refs sets (recorded ms rs h) → rs ≡ answers_told refs sets h ms
answers_are_told refs sets [] [] h n a = refl
answers_are_told refs sets [] (r ∷ rs) h n a = absurd (omega arith)
answers_are_told refs sets (m ∷ ms) [] h n a = absurd (omega arith)
answers_are_told refs sets (m ∷ ms) (r ∷ rs) h n a =
    let here : r ≡ answer (state_told refs sets h) m = (answered_tail refs sets ms rs (event m r ∷ h) a).0 in
    let rest = answers_are_told refs sets ms rs (event m r ∷ h) (omega arith) a in
    λ i. here i ∷ (rest ∙ ap (λ x. answers_told refs sets (event m x ∷ h) ms) here) i

-- after the first i calls
pub record Playing (refs sets : List ℕ) (h : List Event) (ms : List Move) (rs : List (Result ℕ Fault)) (i : ℕ) (s : State) : Type 0 where
  pub state : s ≡ state_told refs sets (firsts ms rs h i)
  pub answered : Answered refs sets (firsts ms rs h i)
  pub every : (n : ℕ) → n ≤ i → DayLaw refs sets (firsts ms rs h n) (state_told refs sets (firsts ms rs h n))

module _ (refs sets : List ℕ) (h : List Event) where
  pub play_none : (d : Day) (ms : List Move) (rs : List (Result ℕ Fault)) → length refs ≡ 24 → day_of d ≡ state_told refs sets h → Answered refs sets h → Playing refs sets h ms rs 0 (day_of d)
  play_none d ms rs long is a = record {
    state = is;
    answered = a;
    every = λ n l. let z : 0 ≡ n = omega arith in subst (λ k. DayLaw refs sets (firsts ms rs h k) (state_told refs sets (firsts ms rs h k))) z (day_law d h refs sets long is a);
  }

  pub play_more : (cs : List Call) (rs : List (Result ℕ Fault)) (i : ℕ) (z : Call) (d d' : Day) (r : Result ℕ Fault) → i < length cs → length rs ≡ length cs → length refs ≡ 24
      → r ≡ answer (day_of d) (move_of (get_or cs i z)) → day_of d' ≡ left (day_of d) (move_of (get_or cs i z)) r
      → Playing refs sets h (moves cs) rs i (day_of d) → Playing refs sets h (moves cs) (set rs i r) (i + 1) (day_of d')
  play_more cs rs i z d d' r l n long gives leaves p =
      let c = get_or cs i z in
      let ms = moves cs in
      let past = firsts ms rs h i in
      let told = state_told refs sets past in
      let lm : i < length ms = omega (arith, length-map cs move_of) in
      let here : get_or ms i (move_of c) ≡ move_of c = get_or-map move_of cs i z (move_of c) l in
      let more : firsts ms (set rs i r) h (i + 1) ≡ event (move_of c) r ∷ past = firsts_more ms rs h i (move_of c) r lm (n ∙ sym (length-map cs move_of)) ∙ ap (λ m. event m r ∷ past) here in
      let answers : r ≡ answer told (move_of c) = gives ∙ ap (λ s. answer s (move_of c)) p.state in
      let next : day_of d' ≡ state_told refs sets (event (move_of c) r ∷ past) = leaves ∙ ap (λ s. left s (move_of c) r) p.state ∙ told_step refs sets past (move_of c) r answers in
      let history : Answered refs sets (event (move_of c) r ∷ past) = (answers, p.answered) in
      record {
        state = next ∙ ap (state_told refs sets) (sym more);
        answered = subst (Answered refs sets) (sym more) history;
        every = λ k lk. elim (leb_tells k i) [
          | inl q ↦ subst (λ x. DayLaw refs sets (recorded (take k ms) x h) (state_told refs sets (recorded (take k ms) x h))) (sym (take-set-le k rs i r q.1)) (p.every k q.1)
          | inr q ↦
              let last : i + 1 ≡ k = omega (arith, q.1) in
              subst (λ x. DayLaw refs sets (firsts ms (set rs i r) h x) (state_told refs sets (firsts ms (set rs i r) h x))) last
              (subst (λ x. DayLaw refs sets x (state_told refs sets x)) (sym more) (day_law d' (event (move_of c) r ∷ past) refs sets long next history))
        ];
      }

  pub play_all : (cs : List Call) (rs : List (Result ℕ Fault)) (i : ℕ) (s : State) → length cs ≤ i → length rs ≡ length cs → Playing refs sets h (moves cs) rs i s → Played refs sets h (moves cs) rs s
  play_all cs rs i s l n p =
      let ms = moves cs in
      let lm = length-map cs move_of in
      record {
        all = n ∙ sym lm;
        answers = answers_are_told refs sets ms rs h (n ∙ sym lm) (subst (Answered refs sets) (λ j. recorded (take_all i ms (omega (arith, lm)) j) (take_all i rs (omega arith) j) h) p.answered);
        day = p.state ∙ (λ j. state_told refs sets (recorded (take_all i ms (omega (arith, lm)) j) (take_all i rs (omega arith) j) h));
        every = λ k lk. p.every k (omega (arith, lm));
      }
