-- Refusals in sequence: the first whose condition holds is given, and otherwise the call is granted.
use Rattle.std.specs.Prelude.{Bool, cond, List, [], ◌∷◌, Ok, Err, Result}
use Rattle.faults.specs.declared.fault.Fault.{Fault}
use Rattle.faults.specs.declared.fault.Refusal.{Refusal}
use Rattle.faults.specs.Refusals.{fault}

pub record Condition : Type 0 where
  pub holds : Bool
  pub refusal : Refusal

abbrev pub when : Bool → Refusal → Condition
when b r = record { holds = b; refusal = r }

-- the answer of a call without text
abbrev pub decide : {A : Type 0} → List Condition → A → Result A Fault
decide [] x = Ok x
decide (c ∷ cs) x = cond c.holds (Err (fault c.refusal 0)) (decide cs x)

-- what the call leaves: the new value where it is granted, the old where it is refused
abbrev pub unless : {A : Type 0} → List Condition → A → A → A
unless [] new old = new
unless (c ∷ cs) new old = cond c.holds old (unless cs new old)
