-- A day that an accepted load opens is told by the history of its orders.
use Rattle.std.proofs.Common.{◌≡◌, ℕ, ◌+◌, cond, not, List, [], ◌∷◌, length, replicate, Ok, Err, Result, sym, refl, ap, ◌∙◌, subst, append-nil, arith}
use lib.ListN.{get_or-replicate, length-replicate}
use Rattle.faults.specs.declared.fault.Fault.{Fault}
use Rattle.faults.specs.declared.fault.Refusal.TheVariants.{WrongPhase}
use Rattle.faults.specs.Refusals.{fault}
use Rattle.book.specs.Bids.{Asked, Place, vacant}
use Rattle.book.specs.Entering.{enter_answer}
use Rattle.book.specs.Verdicts.{verdict}
use Rattle.calls.specs.Moves.{entering}
use Rattle.clearing.specs.declared.marks.Mark.{Mark}
use Rattle.clearing.specs.declared.results.HourResult.{HourResult}
use Rattle.text.specs.Format.{got}
use Rattle.text.specs.Staged.{granted, denied, Stages, left}
use Rattle.dayfile.specs.Day.{DayText, Book, empty_places, empty_book, booked, ruling, line_rule, order_line, hours_text, count_text, day_text}
use Rattle.dayfile.proofs.Described.{faithful_day}
use Rattle.dayfile.proofs.Fitting.{orders_stages}
use Rattle.dayfile.proofs.Refilled.{enters_parts, enters_when}
use Rattle.day.specs.declared.phases.Phase.{Phase}
use Rattle.day.specs.declared.phases.Phase.TheVariants.{Open}
use Rattle.day.specs.States.{State, no_results, no_marks, is_open}
use Rattle.day.specs.Answers.{first, answer}
use Rattle.day.specs.Views.{opened_day}
use Rattle.posting.specs.declared.fills.Fill.{Fill}
use Rattle.history.specs.Events.{Event, event, loaded}
use Rattle.history.specs.Told.{stamps_given, table_told, phase_told, results_told, marks_told, posts_told, state_told, Answered}
use Rattle.history.specs.Runs.{IsTold}
use Rattle.history.proofs.Rows.{table_is}
use Rattle.history.proofs.Steps.{told_step}

-- a line that passes its rule is an order that is entered
rule_parts : (n : ℕ) (b : Book) (a : Asked) → line_rule n b a ≡ granted → (verdict n a ≡ Ok tt) × (enter_answer b.places b.given a ≡ Ok (b.given + 1))
unfolding line_rule
rule_parts n b a e = go (verdict n a) refl
  where
    go : (v : Result (Unit {0}) Fault) → verdict n a ≡ v → (verdict n a ≡ Ok tt) × (enter_answer b.places b.given a ≡ Ok (b.given + 1))
    go (Ok u) h = let e' : ruling (enter_answer b.places b.given a) ≡ granted = rw h at e in (h, enters_when b.places b.given a (enters_parts b.places b.given a e'))
    go (Err f) h = let e' : denied f.refusal ≡ granted = rw h at e in absurd cc

module _ (refs sets : List ℕ) where
  abbrev told : List Event → State
  told h = state_told refs sets h

  -- an open day told by its history, without results and posts
  record Fresh (h : List Event) : Type 0 where
    opens : phase_told h ≡ Open
    results : results_told refs sets h ≡ no_results
    marks : marks_told refs sets h ≡ no_marks
    posts : posts_told h ≡ []
    answered : Answered refs sets h

  abbrev book_told : List Event → Book
  book_told h = record { places = table_told h; given = stamps_given h }

  entered_answer : (h : List Event) (a : Asked) → phase_told h ≡ Open → verdict (length sets) a ≡ Ok tt → enter_answer (table_told h) (stamps_given h) a ≡ Ok (stamps_given h + 1) → Ok (stamps_given h + 1) ≡ answer (told h) (entering a)
  entered_answer h a opens mine free =
      sym free
      ∙ sym (ap (λ p. cond (not (is_open p)) (Err (fault WrongPhase 0)) (enter_answer (table_told h) (stamps_given h) a)) opens)
      ∙ sym (ap (λ j. first j (cond (not (is_open (phase_told h))) (Err (fault WrongPhase 0)) (enter_answer (table_told h) (stamps_given h) a))) mine)

  record Loaded (b : Book) (xs : List Asked) (h : List Event) : Type 0 where
    fresh : Fresh h
    book : left booked b xs ≡ book_told h

  load_told : (g : ℕ) (xs : List Asked) (h : List Event) → Stages (order_line (length sets)) booked (book_told h) xs → g ≡ stamps_given h → Fresh h → Loaded (book_told h) xs (loaded g xs h)
  load_told g [] h s n f = record { fresh = f; book = refl }
  load_told g (a ∷ xs) h s n f =
      let parts = rule_parts (length sets) (book_told h) a s.0.1 in
      let e = event (entering a) (Ok (g + 1)) in
      let says : Ok (g + 1) ≡ answer (told h) (entering a) = ap (λ k. Ok (k + 1)) n ∙ entered_answer h a f.opens parts.0 parts.1 in
      let step = told_step refs sets h (entering a) (Ok (g + 1)) says in
      let next : booked (book_told h) a ≡ book_told (e ∷ h) = ap (λ k. booked (record { places = table_told h; given = k }) a) (sym n) ∙ ap (λ (d : State). record { places = d.places; given = d.given }) step in
      let rest = load_told (g + 1) xs (e ∷ h) (subst (λ b. Stages (order_line (length sets)) booked b xs) next s.1) (ap (λ k. k + 1) n)
      (record { opens = f.opens; results = f.results; marks = f.marks; posts = append-nil (posts_told h) ∙ f.posts; answered = (says, f.answered) }) in
      record { fresh = rest.fresh; book = ap (λ b. left booked b xs) next ∙ rest.book }

  -- before any order
  none_told : empty_book ≡ book_told []
  unfolding empty_places
  none_told = ap (λ ps. record { places = ps; given = 0 }) (table_is [] (replicate 256 vacant) (length-replicate 256 vacant) (λ k l. get_or-replicate 256 k vacant vacant l))

  stamps_loaded : (g : ℕ) (xs : List Asked) (h : List Event) → stamps_given (loaded g xs h) ≡ stamps_given h + length xs
  stamps_loaded g [] h = omega arith
  stamps_loaded g (a ∷ xs) h = omega (arith, stamps_loaded (g + 1) xs (event (entering a) (Ok (g + 1)) ∷ h))

  abbrev state_with : Phase → List Place → ℕ → List HourResult → List Mark → List Fill → State
  state_with p ps n rs ms fs = record { phase = p; references = refs; sets = sets; places = ps; given = n; results = rs; marks = ms; posts = fs }

  pub opened_told : (xs : List Asked) → Stages (order_line (length sets)) booked empty_book xs
      → (opened_day (record { references = refs; sets = sets; orders = xs }) ≡ told (loaded 0 xs [])) × Answered refs sets (loaded 0 xs [])
  opened_told xs s =
      let l = load_told 0 xs [] (subst (λ b. Stages (order_line (length sets)) booked b xs) none_told s) refl (record { opens = refl; results = refl; marks = refl; posts = refl; answered = tt }) in
      let f = l.fresh in
      let h = loaded 0 xs [] in
      let places : (left booked empty_book xs).places ≡ table_told h = ap (λ b. (left booked b xs).places) none_told ∙ ap (λ (b : Book). b.places) l.book in
      let given : length xs ≡ stamps_given h = omega (arith, stamps_loaded 0 xs []) in
      ((λ i. state_with (sym f.opens i) (places i) (given i) (sym f.results i) (sym f.marks i) (sym f.posts i)), f.answered)

hours_24 : (d : DayText) → day_text.Fits d → length d.references ≡ 24
unfolding day_text hours_text count_text
hours_24 d h = omega (arith, h.0.0.1)

pub load_fits : (l p : ℕ) (bs : List ℕ) (d : DayText) (q : ℕ) (cs : List ℕ) → day_text.read l p bs ≡ got d q cs → IsTold (loaded 0 d.orders []) (opened_day d)
load_fits l p bs d q cs e =
    let fits = (faithful_day.sound l p bs d q cs e).2 in
    let told = opened_told d.references d.sets d.orders (orders_stages d fits) in
    record { state = told.0; answered = told.1; hours = hours_24 d fits }
