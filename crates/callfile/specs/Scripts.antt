-- What the lines of calls come to: each call with the place of its line, and the fault of the text that ends the reading.
use Rattle.std.specs.Prelude.{◌≡◌, ℕ, zero, suc, List, [], ◌∷◌, map, Some, None, vec_items, codes, Option}
use Rattle.faults.specs.declared.fault.Fault.{Fault}
use Rattle.faults.specs.declared.fault.Refusal.TheVariants.{Misfit}
use Rattle.faults.specs.Refusals as refusals
use Rattle.text.specs.Format.{Outcome, got, refused}
use Rattle.dayfile.specs.Day.{count_text}
use Rattle.calls.specs.Moves.{Move, move_of}
use Rattle.callfile.specs.declared.scripts.Script.{Script as Held}
use Rattle.callfile.specs.Calls.{call_line}

pub record Script : Type 0 where
  pub steps : List (ℕ × Move)
  pub fault : Option Fault

-- no more calls
abbrev pub ending : Option Fault → Script
ending f = record { steps = []; fault = f }

-- one call, and then the others
abbrev pub stepping : ℕ × Move → Script → Script
stepping x s = record { steps = x ∷ s.steps; fault = s.fault }

-- bytes at p where the text should end
abbrev pub leftover : ℕ → List ℕ → Option Fault
leftover p [] = None
leftover p (b ∷ bs) = Some (refusals.fault (Misfit p) p)

-- a reading with what follows it, or its fault
abbrev pub going : {A : Type 0} → Outcome A → (A → ℕ → List ℕ → Script) → Script
going (got a q cs) k = k a q cs
going (refused f) k = ending (Some f)

-- n lines are still to be read, from the place p on
unfoldable pub script_of : ℕ → ℕ → List ℕ → Script
script_of zero p bs = ending (leftover p bs)
script_of (suc n) p bs = going (call_line.read 0 p bs) (λ m q cs. stepping (p, m) (script_of n q cs))

-- the count, and then as many lines
unfoldable pub calls_of : ℕ → List ℕ → Script
calls_of p bs = going ((count_text (codes "calls") 0 4096).read 0 p bs) script_of

-- what a script holds is what its text comes to
pub record Scripted (s : Held) (t : Script) : Type 0 where
  pub lines : vec_items s.lines ≡ map (λ x. x.0) t.steps
  pub calls : map move_of (vec_items s.calls) ≡ map (λ x. x.1) t.steps
  pub fault : s.fault ≡ t.fault
