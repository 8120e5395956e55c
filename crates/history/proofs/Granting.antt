-- A call that was granted: no refusal's condition held, and the answer is its value.
use Rattle.std.proofs.Common.{◌≡◌, ℕ, ◌<◌, Bool, true, false, cond, not, ◌||◌, List, [], ◌∷◌, length, Ok, Err, Result, sym, refl, arith}
use Rattle.std.specs.List.{AllByRecursion}
use Rattle.std.proofs.lemmas.Bool.Decides.{nat_tests}
use Rattle.faults.specs.declared.fault.Fault.{Fault}
use Rattle.faults.specs.Answers.{out_of_range}
use Rattle.faults.specs.Refusals.{fault}
use Rattle.book.specs.Bids.{Asked}
use Rattle.book.specs.Conditions.{Condition, decide}
use Rattle.book.specs.Verdicts.{verdict, bad_row, bad_member, bad_product, bad_number, form_verdict, block_verdict, and_then}
use Rattle.calls.specs.Moves.{Move, withdrawing}
use Rattle.day.specs.States.{State}
use Rattle.day.specs.Answers.{judged, offers, further, refusals, value, first, answer}

pub never : {A B : Type 0} {f : Fault} {v : A} → ◌≡◌ {A = Result A Fault} (Ok v) (Err f) → B
never e = absurd cc

decide_at : {A : Type 0} (t : Bool) (g : Fault) (y : Result A Fault) (v : A) → Ok v ≡ cond t (Err g) y → (t ≡ false) × (Ok v ≡ y)
decide_at true g y v e = never e
decide_at false g y v e = (refl, e)

decide_ok : (cs : List Condition) (x v : ℕ) → Ok v ≡ decide cs x → AllByRecursion (λ c. c.holds ≡ false) cs × (v ≡ x)
decide_ok [] x v e = (tt, cc)
decide_ok (c ∷ cs) x v e =
    let p = decide_at c.holds (fault c.refusal 0) (decide cs x) v e in
    let q = decide_ok cs x v p.1 in
    ((p.0, q.0), q.1)

first_ok : (j : Result (Unit {0}) Fault) (x : Result ℕ Fault) (v : ℕ) → Ok v ≡ first j x → (j ≡ Ok tt) × (Ok v ≡ x)
first_ok (Ok u) x v e = (refl, e)
first_ok (Err f) x v e = never e

not-false : (t : Bool) → not t ≡ false → t ≡ true
not-false true e = refl
not-false false e = absurd cc

pub record Grants (d : State) (m : Move) (v : ℕ) : Type 0 where
  pub alone : judged (length d.sets) m ≡ Ok tt
  pub offered : offers d.phase m ≡ true
  pub further : AllByRecursion (λ c. c.holds ≡ false) (further d m)
  pub value : v ≡ value d m

pub grants : (d : State) (m : Move) (v : ℕ) → Ok v ≡ answer d m → Grants d m v
grants d m v e =
    let f = first_ok (judged (length d.sets) m) (decide (refusals d m) (value d m)) v e in
    let g = decide_ok (refusals d m) (value d m) v f.1 in
    record { alone = f.0; offered = not-false (offers d.phase m) g.0.0; further = g.0.1; value = g.1 }

-- an order that is not refused by itself has a row of the table
bad_out : (t : Bool) (x : Result (Unit {0}) Fault) → cond t (Err out_of_range) x ≡ Ok tt → t ≡ false
bad_out true x e = never (sym e)
bad_out false x e = refl

or_out : (t u : Bool) → (t || u) ≡ false → t ≡ false
or_out true u e = e
or_out false u e = refl

row_in : (r : ℕ) → bad_row r ≡ false → r < 256
row_in r e = grind (arith, nat_tests)

pub row_asked : (n : ℕ) (a : Asked) → verdict n a ≡ Ok tt → a.row < 256
unfolding verdict
row_asked n a e =
    let fine = bad_out (bad_number a) (and_then (form_verdict a.offer.side a.offer.form) (block_verdict n a.product a.offer.form)) e in
    row_in a.row (or_out (bad_row a.row) (bad_member a.member) (or_out (bad_row a.row || bad_member a.member) (bad_product a.product) fine))

pub row_withdrawn : (n r m : ℕ) → judged n (withdrawing r m) ≡ Ok tt → r < 256
row_withdrawn n r m e = row_in r (or_out (bad_row r) (bad_member m) (bad_out (bad_row r || bad_member m) (Ok tt) e))
