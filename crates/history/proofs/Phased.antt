-- Results, marks and the post list by the phase: zero while open, cleared from a fix on, and no post before a confirm.
use Rattle.std.proofs.Common.{◌≡◌, ℕ, Bool, true, false, List, [], ◌∷◌, ◌++◌, Ok, Err, Result, sym, refl, ap, ◌∙◌, subst, append-nil}
use Rattle.std.specs.List.{AllByRecursion}
use Rattle.faults.specs.declared.fault.Fault.{Fault}
use Rattle.calls.specs.Moves.{Move, entering, changing, withdrawing, fixing, recalling, confirming, posting, finishing, overfull}
use Rattle.clearing.specs.Clearing.{clearing_of}
use Rattle.posting.specs.declared.fills.Fill.{Fill}
use Rattle.day.specs.declared.phases.Phase.{Phase}
use Rattle.day.specs.declared.phases.Phase.TheVariants.{Open, Fixed, Post, Final}
use Rattle.day.specs.States.{no_results, no_marks, is_open, is_fixed, is_post}
use Rattle.day.specs.Answers.{answer}
use Rattle.history.specs.Events.{Event, event, is_granted}
use Rattle.history.specs.Told.{row_told, table_told, phase_told, results_told, marks_told, posts_told, state_told, Answered}
use Rattle.history.specs.Law.{recalls, SinceFix}
use Rattle.history.proofs.Granting.{Grants, grants, never}
use Rattle.history.proofs.Rows.{table_same}
use Rattle.history.proofs.Steps.{none_filled}
use Rattle.history.proofs.Splits.{answered_told}

pub no_way : {X : Type 0} → true ≡ false → X
no_way e = absurd cc

-- no post order was taken yet
abbrev pub before_post : Phase → Bool
before_post Open = true
before_post Fixed = true
before_post Post = false
before_post Final = false

pub open_before : (p : Phase) → is_open p ≡ true → before_post p ≡ true
open_before Open e = refl
open_before Fixed e = no_way (sym e)
open_before Post e = no_way (sym e)
open_before Final e = no_way (sym e)

pub fixed_before : (p : Phase) → is_fixed p ≡ true → (before_post p ≡ true) × (is_open p ≡ false)
fixed_before Open e = no_way (sym e)
fixed_before Fixed e = (refl, refl)
fixed_before Post e = no_way (sym e)
fixed_before Final e = no_way (sym e)

pub post_after : (p : Phase) → is_post p ≡ true → (before_post p ≡ false) × (is_open p ≡ false)
post_after Open e = no_way (sym e)
post_after Fixed e = no_way (sym e)
post_after Post e = (refl, refl)
post_after Final e = no_way (sym e)

nothing_more : (fs : List Fill) → fs ≡ [] → fs ++ [] ≡ []
nothing_more fs e = append-nil fs ∙ e

module _ (refs sets : List ℕ) where
  abbrev told : List Event → Type 0
  told h = Answered refs sets h

  pub record Phased (h : List Event) : Type 0 where
    pub none : is_open (phase_told h) ≡ true → (results_told refs sets h ≡ no_results) × (marks_told refs sets h ≡ no_marks)
    pub cleared : is_open (phase_told h) ≡ false → (results_told refs sets h ≡ (clearing_of (table_told h) sets refs).results) × (marks_told refs sets h ≡ (clearing_of (table_told h) sets refs).marks)
    pub unposted : before_post (phase_told h) ≡ true → posts_told h ≡ []

  -- the clearing of a table that stays
  moved : (h : List Event) (e : Event) → ((k : ℕ) → row_told k (e ∷ h) ≡ row_told k h)
      → (results_told refs sets h ≡ (clearing_of (table_told h) sets refs).results) × (marks_told refs sets h ≡ (clearing_of (table_told h) sets refs).marks)
      → (results_told refs sets h ≡ (clearing_of (table_told (e ∷ h)) sets refs).results) × (marks_told refs sets h ≡ (clearing_of (table_told (e ∷ h)) sets refs).marks)
  moved h e f c =
      let same = table_same h e f in
      (c.0 ∙ ap (λ ps. (clearing_of ps sets refs).results) same, c.1 ∙ ap (λ ps. (clearing_of ps sets refs).marks) same)

  granted_phased : (h : List Event) (m : Move) (v : ℕ) → Grants (state_told refs sets h) m v → Phased h → Phased (event m (Ok v) ∷ h)
  granted_phased h (entering a) v g s = record { none = s.none; cleared = λ e. no_way (sym g.offered ∙ e); unposted = λ e. nothing_more (posts_told h) (s.unposted e) }
  granted_phased h (changing a) v g s = record { none = s.none; cleared = λ e. no_way (sym g.offered ∙ e); unposted = λ e. nothing_more (posts_told h) (s.unposted e) }
  granted_phased h (withdrawing r m) v g s = record { none = s.none; cleared = λ e. no_way (sym g.offered ∙ e); unposted = λ e. nothing_more (posts_told h) (s.unposted e) }
  granted_phased h fixing v g s =
      let same = table_same h (event fixing (Ok v)) (λ k. refl) in
      record {
        none = λ e. no_way (sym e);
        cleared = λ e. (ap (λ ps. (clearing_of ps sets refs).results) same, ap (λ ps. (clearing_of ps sets refs).marks) same);
        unposted = λ e. nothing_more (posts_told h) (s.unposted (open_before (phase_told h) g.offered));
      }
  granted_phased h recalling v g s = record { none = λ e. (refl, refl); cleared = λ e. no_way e; unposted = λ e. nothing_more (posts_told h) (s.unposted (fixed_before (phase_told h) g.offered).0) }
  granted_phased h confirming v g s = record { none = λ e. no_way (sym e); cleared = λ e. moved h (event confirming (Ok v)) (λ k. refl) (s.cleared (fixed_before (phase_told h) g.offered).1); unposted = λ e. no_way (sym e) }
  granted_phased h (posting o) v g s = record { none = s.none; cleared = λ e. moved h (event (posting o) (Ok v)) (λ k. refl) (s.cleared e); unposted = λ e. no_way (sym e ∙ (post_after (phase_told h) g.offered).0) }
  granted_phased h finishing v g s = record { none = λ e. no_way (sym e); cleared = λ e. moved h (event finishing (Ok v)) (λ k. refl) (s.cleared (post_after (phase_told h) g.offered).1); unposted = λ e. no_way (sym e) }
  granted_phased h overfull v g s = never (sym g.alone)

  refused_phased : (h : List Event) (m : Move) (f : Fault) → Phased h → Phased (event m (Err f) ∷ h)
  refused_phased h m f s = record {
    none = s.none;
    cleared = λ e. moved h (event m (Err f)) (λ k. refl) (s.cleared e);
    unposted = λ e. ap (λ l. posts_told h ++ l) (none_filled m f) ∙ nothing_more (posts_told h) (s.unposted e);
  }

  step_phased : (h : List Event) (m : Move) (r : Result ℕ Fault) → r ≡ answer (state_told refs sets h) m → Phased h → Phased (event m r ∷ h)
  step_phased h m (Ok v) e s = granted_phased h m v (grants (state_told refs sets h) m v e) s
  step_phased h m (Err f) e s = refused_phased h m f s

  pub phased : (h : List Event) → told h → Phased h
  phased [] a = record { none = λ e. (refl, refl); cleared = λ e. no_way e; unposted = λ e. refl }
  phased (e ∷ h) a = step_phased h e.move e.answer a.0 (phased h a.1)

  -- since a granted fix, as long as no recall was granted
  pub record Stays (earlier h : List Event) : Type 0 where
    pub orders : table_told h ≡ table_told earlier
    pub results : results_told refs sets h ≡ (clearing_of (table_told earlier) sets refs).results
    pub marks : marks_told refs sets h ≡ (clearing_of (table_told earlier) sets refs).marks
    pub closed : is_open (phase_told h) ≡ false

  granted_stays : (earlier h : List Event) (m : Move) (v : ℕ) → Grants (state_told refs sets h) m v → recalls (event m (Ok v)) ≡ false → Stays earlier h → Stays earlier (event m (Ok v) ∷ h)
  granted_stays earlier h (entering a) v g n s = no_way (sym g.offered ∙ s.closed)
  granted_stays earlier h (changing a) v g n s = no_way (sym g.offered ∙ s.closed)
  granted_stays earlier h (withdrawing r m) v g n s = no_way (sym g.offered ∙ s.closed)
  granted_stays earlier h fixing v g n s = no_way (sym g.offered ∙ s.closed)
  granted_stays earlier h recalling v g n s = no_way n
  granted_stays earlier h confirming v g n s = record { orders = sym (table_same h (event confirming (Ok v)) (λ k. refl)) ∙ s.orders; results = s.results; marks = s.marks; closed = refl }
  granted_stays earlier h (posting o) v g n s = record { orders = sym (table_same h (event (posting o) (Ok v)) (λ k. refl)) ∙ s.orders; results = s.results; marks = s.marks; closed = s.closed }
  granted_stays earlier h finishing v g n s = record { orders = sym (table_same h (event finishing (Ok v)) (λ k. refl)) ∙ s.orders; results = s.results; marks = s.marks; closed = refl }
  granted_stays earlier h overfull v g n s = never (sym g.alone)

  step_stays : (earlier h : List Event) (m : Move) (r : Result ℕ Fault) → r ≡ answer (state_told refs sets h) m → recalls (event m r) ≡ false → Stays earlier h → Stays earlier (event m r ∷ h)
  step_stays earlier h m (Ok v) e n s = granted_stays earlier h m v (grants (state_told refs sets h) m v e) n s
  step_stays earlier h m (Err f) e n s = record { orders = sym (table_same h (event m (Err f)) (λ k. refl)) ∙ s.orders; results = s.results; marks = s.marks; closed = s.closed }

  fixed_stays : (earlier : List Event) (m : Move) (r : Result ℕ Fault) → is_granted (event m r) ≡ true → m ≡ fixing → Stays earlier (event m r ∷ earlier)
  fixed_stays earlier m (Err f) g e = no_way (sym g)
  fixed_stays earlier m (Ok v) g e = subst (λ x. Stays earlier (event x (Ok v) ∷ earlier)) (sym e) (record { orders = sym (table_same earlier (event fixing (Ok v)) (λ k. refl)); results = refl; marks = refl; closed = refl })

  pub stays_told : (later : List Event) (e : Event) (earlier : List Event) → told (later ++ (e ∷ earlier)) → AllByRecursion (λ x. recalls x ≡ false) later → is_granted e ≡ true → e.move ≡ fixing → Stays earlier (later ++ (e ∷ earlier))
  stays_told [] e earlier a n g f = fixed_stays earlier e.move e.answer g f
  stays_told (x ∷ later) e earlier a n g f = step_stays earlier (later ++ (e ∷ earlier)) x.move x.answer a.0 n.0 (stays_told later e earlier a.1 n.1 g f)

  -- the rounds that the fix was answered
  rounds_of_fix : (earlier : List Event) (m : Move) (r : Result ℕ Fault) → r ≡ answer (state_told refs sets earlier) m → is_granted (event m r) ≡ true → m ≡ fixing → r ≡ Ok (clearing_of (table_told earlier) sets refs).rounds
  rounds_of_fix earlier m (Err f) e g k = no_way (sym g)
  rounds_of_fix earlier m (Ok v) e g k = ap Ok (grants (state_told refs sets earlier) fixing v (e ∙ ap (answer (state_told refs sets earlier)) k)).value

  pub since_fix_told : (later : List Event) (e : Event) (earlier : List Event) → told (later ++ (e ∷ earlier)) → AllByRecursion (λ x. recalls x ≡ false) later → is_granted e ≡ true → e.move ≡ fixing
      → SinceFix refs sets earlier e.answer (state_told refs sets (later ++ (e ∷ earlier)))
  since_fix_told later e earlier a n g f =
      let s = stays_told later e earlier a n g f in
      record { orders = s.orders; results = s.results; marks = s.marks; rounds = rounds_of_fix earlier e.move e.answer (answered_told refs sets later e earlier a) g f; stands = s.closed }
