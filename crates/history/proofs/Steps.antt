-- One event more: what a call leaves is what the longer history tells.
use Rattle.std.proofs.Common.{◌≡◌, ℕ, ◌+◌, List, [], ◌∷◌, ◌++◌, length, set, Ok, Err, Result, sym, refl, ap, ◌∙◌, append-nil}
use Rattle.faults.specs.declared.fault.Fault.{Fault}
use Rattle.book.specs.Bids.{Asked, Place, vacant, held, bid_of}
use Rattle.calls.specs.Moves.{Move, entering, changing, withdrawing, fixing, recalling, confirming, posting, finishing, overfull}
use Rattle.clearing.specs.declared.marks.Mark.{Mark}
use Rattle.clearing.specs.declared.results.HourResult.{HourResult}
use Rattle.clearing.specs.Clearing.{clearing_of}
use Rattle.posting.specs.declared.fills.Fill.{Fill}
use Rattle.day.specs.declared.phases.Phase.{Phase}
use Rattle.day.specs.declared.phases.Phase.TheVariants.{Open, Fixed, Post, Final}
use Rattle.day.specs.States.{State, no_results, no_marks}
use Rattle.day.specs.Answers.{answer, left}
use Rattle.history.specs.Events.{Event, event}
use Rattle.history.specs.Told.{stamps_given, row_told, table_told, phase_told, results_told, marks_told, fill_by, posts_told, state_told}
use Rattle.history.proofs.Granting.{Grants, grants, row_asked, row_withdrawn, never}
use Rattle.history.proofs.Rows.{table_set, table_same}

-- a refused call adds no fill
pub none_filled : (m : Move) (f : Fault) → fill_by m (Err f) ≡ []
none_filled (entering a) f = refl
none_filled (changing a) f = refl
none_filled (withdrawing r m) f = refl
none_filled fixing f = refl
none_filled recalling f = refl
none_filled confirming f = refl
none_filled (posting o) f = refl
none_filled finishing f = refl
none_filled overfull f = refl

module _ (refs sets : List ℕ) where
  abbrev state_with : Phase → List Place → ℕ → List HourResult → List Mark → List Fill → State
  state_with p ps n rs ms fs = record { phase = p; references = refs; sets = sets; places = ps; given = n; results = rs; marks = ms; posts = fs }

  refused_step : (h : List Event) (m : Move) (f : Fault) → state_told refs sets h ≡ state_told refs sets (event m (Err f) ∷ h)
  refused_step h m f =
      let e = event m (Err f) in
      let rows = table_same h e (λ k. refl) in
      let posts : posts_told h ≡ posts_told h ++ fill_by m (Err f) = sym (append-nil (posts_told h)) ∙ ap (λ l. posts_told h ++ l) (sym (none_filled m f)) in
      λ i. state_with (phase_told h) (rows i) (stamps_given h) (results_told refs sets h) (marks_told refs sets h) (posts i)

  written_step : (h : List Event) (m : Move) (a : Asked) (v : ℕ) → v ≡ stamps_given h + 1 → set (table_told h) a.row (held (bid_of a (stamps_given h + 1))) ≡ table_told (event m (Ok v) ∷ h)
      → state_with (phase_told h) (set (table_told h) a.row (held (bid_of a v))) v (results_told refs sets h) (marks_told refs sets h) (posts_told h)
      ≡ state_with (phase_told h) (table_told (event m (Ok v) ∷ h)) (stamps_given h + 1) (results_told refs sets h) (marks_told refs sets h) (posts_told h ++ [])
  written_step h m a v e rows =
      let places : set (table_told h) a.row (held (bid_of a v)) ≡ table_told (event m (Ok v) ∷ h) = ap (λ n. set (table_told h) a.row (held (bid_of a n))) e ∙ rows in
      let posts = sym (append-nil (posts_told h)) in
      λ i. state_with (phase_told h) (places i) (e i) (results_told refs sets h) (marks_told refs sets h) (posts i)

  kept_step : (h : List Event) (e : Event) (p : Phase) (rs : List HourResult) (ms : List Mark) → ((k : ℕ) → row_told k (e ∷ h) ≡ row_told k h)
      → state_with p (table_told h) (stamps_given h) rs ms (posts_told h) ≡ state_with p (table_told (e ∷ h)) (stamps_given h) rs ms (posts_told h ++ [])
  kept_step h e p rs ms f =
      let rows = table_same h e f in
      let posts = sym (append-nil (posts_told h)) in
      λ i. state_with p (rows i) (stamps_given h) rs ms (posts i)

  abbrev told : List Event → State
  told h = state_told refs sets h

  granted_step : (h : List Event) (m : Move) (v : ℕ) → Grants (told h) m v → left (told h) m (Ok v) ≡ told (event m (Ok v) ∷ h)
  granted_step h (entering a) v g = written_step h (entering a) a v g.value (table_set h (event (entering a) (Ok v)) a.row (held (bid_of a (stamps_given h + 1))) (row_asked (length sets) a g.alone) (λ k. refl))
  granted_step h (changing a) v g = written_step h (changing a) a v g.value (table_set h (event (changing a) (Ok v)) a.row (held (bid_of a (stamps_given h + 1))) (row_asked (length sets) a g.alone) (λ k. refl))
  granted_step h (withdrawing r m) v g =
      let rows = table_set h (event (withdrawing r m) (Ok v)) r vacant (row_withdrawn (length sets) r m g.alone) (λ k. refl) in
      let posts = sym (append-nil (posts_told h)) in
      λ i. state_with (phase_told h) (rows i) (stamps_given h) (results_told refs sets h) (marks_told refs sets h) (posts i)
  granted_step h fixing v g = kept_step h (event fixing (Ok v)) Fixed (clearing_of (table_told h) sets refs).results (clearing_of (table_told h) sets refs).marks (λ k. refl)
  granted_step h recalling v g = kept_step h (event recalling (Ok v)) Open no_results no_marks (λ k. refl)
  granted_step h confirming v g = kept_step h (event confirming (Ok v)) Post (results_told refs sets h) (marks_told refs sets h) (λ k. refl)
  granted_step h (posting o) v g =
      let rows = table_same h (event (posting o) (Ok v)) (λ k. refl) in
      λ i. state_with (phase_told h) (rows i) (stamps_given h) (results_told refs sets h) (marks_told refs sets h) (posts_told (event (posting o) (Ok v) ∷ h))
  granted_step h finishing v g = kept_step h (event finishing (Ok v)) Final (results_told refs sets h) (marks_told refs sets h) (λ k. refl)
  granted_step h overfull v g = never (sym g.alone)

  -- any call, granted or not
  pub told_step : (h : List Event) (m : Move) (r : Result ℕ Fault) → r ≡ answer (told h) m → left (told h) m r ≡ told (event m r ∷ h)
  told_step h m (Ok v) e = granted_step h m v (grants (told h) m v e)
  told_step h m (Err f) e = refused_step h m f
