-- What a history says of a row and of the phase, at the last granted call that decides it.
use Rattle.std.proofs.Common.{◌≡◌, ℕ, Bool, true, false, cond, ◌&&◌, List, [], ◌∷◌, ◌++◌, is_some, Some, None, Option, refl, ◌∙◌}
use Rattle.std.specs.List.{AllByRecursion}
use Rattle.book.specs.Bids.{vacant}
use Rattle.day.specs.declared.phases.Phase.{Phase}
use Rattle.day.specs.declared.phases.Phase.TheVariants.{Open}
use Rattle.day.specs.Answers.{answer}
use Rattle.history.specs.Events.{Event, is_granted, order_written, phase_led}
use Rattle.history.specs.Told.{stamps_given, touches, put_under, row_told, led_to, phase_told, state_told, Answered}
use Rattle.history.specs.Law.{leads}

pub untouched_told : (k : ℕ) (h : List Event) → AllByRecursion (λ e. touches k e ≡ false) h → row_told k h ≡ vacant
untouched_told k [] a = refl
untouched_told k (e ∷ h) a = rw a.0 (untouched_told k h a.1)

pub last_told : (k : ℕ) (later : List Event) (e : Event) (earlier : List Event) → AllByRecursion (λ x. touches k x ≡ false) later → touches k e ≡ true
    → row_told k (later ++ (e ∷ earlier)) ≡ put_under (stamps_given (e ∷ earlier)) (order_written e.move)
last_told k [] e earlier a t = rw t
last_told k (x ∷ later) e earlier a t = rw a.0 (last_told k later e earlier a.1 t)

-- a call that leads nowhere keeps the phase
not_led : (g : Bool) (o : Option Phase) (p : Phase) → (g && is_some o) ≡ false → cond g (led_to o p) p ≡ p
not_led true None p e = refl
not_led true (Some q) p e = absurd cc
not_led false o p e = refl

pub opens_told : (h : List Event) → AllByRecursion (λ e. leads e ≡ false) h → phase_told h ≡ Open
opens_told [] a = refl
opens_told (e ∷ h) a = not_led (is_granted e) (phase_led e.move) (phase_told h) a.0 ∙ opens_told h a.1

led_at : (g : Bool) (o : Option Phase) (p q : Phase) → g ≡ true → o ≡ Some q → cond g (led_to o p) p ≡ q
led_at g o p q e f = rw (e, f)

pub led_told : (later : List Event) (e : Event) (earlier : List Event) (p : Phase) → AllByRecursion (λ x. leads x ≡ false) later → is_granted e ≡ true → phase_led e.move ≡ Some p → phase_told (later ++ (e ∷ earlier)) ≡ p
led_told [] e earlier p a g f = led_at (is_granted e) (phase_led e.move) (phase_told earlier) p g f
led_told (x ∷ later) e earlier p a g f = not_led (is_granted x) (phase_led x.move) (phase_told (later ++ (e ∷ earlier))) a.0 ∙ led_told later e earlier p a.1 g f

module _ (refs sets : List ℕ) where
  pub answered_told : (later : List Event) (e : Event) (earlier : List Event) → Answered refs sets (later ++ (e ∷ earlier)) → e.answer ≡ answer (state_told refs sets earlier) e.move
  answered_told [] e earlier a = a.0
  answered_told (x ∷ later) e earlier a = answered_told later e earlier a.1
