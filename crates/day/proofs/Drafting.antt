-- An order by its draft: judged alone first, and then by the table.
use Rattle.std.proofs.Common.{◌≡◌, ℕ, Bool, true, false, cond, Ok, Err, Result, refl}
use Rattle.faults.specs.declared.fault.Fault.{Fault}
use Rattle.faults.specs.Answers.{granting, out_of_range}
use Rattle.book.specs.Bids.{Asked}
use Rattle.calls.specs.Moves.{Move, overfull}
use Rattle.day.specs.Answers.{judged}

granting_ok : (j : Result (Unit {0}) Fault) (a b : Asked) → Ok b ≡ granting j a → (j ≡ Ok tt) × (b ≡ a)
granting_ok (Ok u) a b e = (refl, cc)
granting_ok (Err f) a b e = absurd cc

-- a granted draft has no refusal of its own, and is the order that was asked for
pub draft_granted : (too_many : Bool) (n : ℕ) (m : Move) (a b : Asked) → Ok b ≡ granting (cond too_many (Err out_of_range) (judged n m)) a → (judged n (cond too_many overfull m) ≡ Ok tt) × (b ≡ a)
draft_granted true n m a b e = absurd cc
draft_granted false n m a b e = granting_ok (judged n m) a b e
