-- A run is what its text and its calls lead to.
use Rattle.std.proofs.Common.{◌≡◌, ℕ, Bool, true, List, [], drop, Ok, Result, sym, refl, ap, ◌∙◌, subst}
use Rattle.faults.specs.declared.fault.Fault.{Fault}
use Rattle.calls.specs.Moves.{Move}
use Rattle.text.specs.Format.{Outcome, got, refused, onward}
use Rattle.dayfile.specs.Day.{DayText, day_text}
use Rattle.day.specs.States.{State}
use Rattle.day.specs.Views.{opened_day}
use Rattle.history.specs.Events.{Event, loaded}
use Rattle.history.specs.Runs.{Played, IsTold, Ran, RanIf}
use Rattle.history.proofs.Loads.{load_fits}

module _ (ms : List Move) (old rs : List (Result ℕ Fault)) (s₀ s : State) where
  ran : (bs : List ℕ) (o : Outcome DayText) (q : ℕ) (cs : List ℕ) → day_text.read 0 0 bs ≡ o → got s₀ q cs ≡ onward o (λ d r ds. got (opened_day d) r ds)
      → ((h : List Event) → IsTold h s₀ → Played s₀.references s₀.sets h ms rs s) → Ran o ms old rs (Ok s)
  ran bs (refused f) q cs is e play = absurd cc
  ran bs (got d r ds) q cs is e play =
      let h = loaded 0 d.orders [] in
      let opened : s₀ ≡ opened_day d = cc in
      let told : IsTold h (opened_day d) = load_fits 0 0 bs d r ds is in
      subst (λ (x : State). Played x.references x.sets h ms rs s) opened (play h (subst (IsTold h) (sym opened) told))

  pub ran_if : (t : Bool) → t ≡ true → (bs : List ℕ) (at : ℕ) (input : List ℕ) (q : ℕ) (cs : List ℕ) → at ≡ 0 → input ≡ bs
      → got s₀ q cs ≡ onward (day_text.read 0 at (drop at input)) (λ d r ds. got (opened_day d) r ds)
      → ((h : List Event) → IsTold h s₀ → Played s₀.references s₀.sets h ms rs s) → RanIf t (day_text.read 0 0 bs) ms old rs (Ok s)
  ran_if t whole bs at input q cs start same e play =
      let here : day_text.read 0 at (drop at input) ≡ day_text.read 0 0 bs = λ i. day_text.read 0 (start i) (drop (start i) (same i)) in
      subst (λ b. RanIf b (day_text.read 0 0 bs) ms old rs (Ok s)) (sym whole)
      (ran bs (day_text.read 0 0 bs) q cs refl (e ∙ ap (λ (o : Outcome DayText). onward o (λ d r ds. got (opened_day d) r ds)) here) play)
