-- What a reader's steps say of a day's sections.
use Rattle.std.proofs.Common.{◌≡◌, ℕ, ◌^◌, ◌<◌, ◌≤◌, true, List, [], ◌∷◌, ◌++◌, length, IsErrAnd, codes, Result, sym, refl, ap, ◌∙◌, arith}
use Rattle.std.proofs.lemmas.Bool.{le-ltb, lt-leb}
use Rattle.faults.specs.declared.fault.Fault.{Fault}
use Rattle.std.proofs.lemmas.Result.{err_from_is_err_and}
use Rattle.book.specs.Bids.{Asked, Place}
use Rattle.book.specs.Conditions.{unless}
use Rattle.book.specs.HourSets.{push_refusals, pushed}
use Rattle.text.specs.declared.reader.Reader.{Reader}
use Rattle.text.specs.Format.{Outcome, got, refused, onward, item, then, parting}
use Rattle.text.specs.Items.{number}
use Rattle.text.specs.Tokens.{ahead}
use Rattle.text.specs.Staged.{leaving, many}
use Rattle.text.proofs.Turns.{then_on, then_no, dressed_told}
use Rattle.dayfile.specs.Day.{count_items, count_text, tick_on, tick_line, hours_text, booked, empty_book, order_lines, orders_text}
use Rattle.dayfile.specs.Loading.{book_told}
use Rattle.dayfile.proofs.Described.{faithful_number, faithful_count}

-- the second of two values
pub second : {A B : Type 0} (a : A) (o : Outcome B) → onward {A = A × B} (onward o (λ b r ds. got (a, b) r ds)) (λ p q cs. got p.1 q cs) ≡ o
second a (got b q cs) = refl
second a (refused f) = refl

pub count_told : (w : List ℕ) (low high : ℕ) (s : Reader) (o : Outcome (Unit {0} × ℕ)) → o ≡ (count_items w low high).read s.at s.at (ahead s) → onward o (λ p q cs. got p.1 q cs) ≡ (count_text w low high).read 0 s.at (ahead s)
unfolding count_text
count_told w low high s o e = dressed_told (λ p. p.1) (λ n. (tt, n)) (count_items w low high) s.at s o e

-- a number that was read is in its range
pub number_fits : (low high c l : ℕ) (s : Reader) (n q : ℕ) (cs : List ℕ) → high < 2 ^ 64 → parting c ≡ true → got n q cs ≡ (item (number low high) c).read l s.at (ahead s) → (low ≤ n) × (n ≤ high)
number_fits low high c l s n q cs small p e = ((faithful_number low high c small p).sound l s.at (ahead s) n q cs (sym e)).2

pub count_fits : (w : List ℕ) (low high l : ℕ) (s : Reader) (n q : ℕ) (cs : List ℕ) → high < 2 ^ 64 → got n q cs ≡ (count_text w low high).read l s.at (ahead s) → (low ≤ n) × (n ≤ high)
unfolding count_text
count_fits w low high l s n q cs small e = ((faithful_count w low high small).sound l s.at (ahead s) n q cs (sym e)).2.1

-- a proper hour set is added to fewer than 14
module _ (sets : List ℕ) (h : ℕ) (low : 1 ≤ h) (high : h ≤ 16777215) (few : length sets < 14) where
  pub push_adds : unless (push_refusals sets h) (pushed sets h) sets ≡ sets ++ (h ∷ [])
  push_adds = rw (le-ltb h 1 low, le-ltb 16777215 h high, lt-leb 14 (length sets) few)

-- the section of reference values from its count and its values
pub hours_on : (s t : Reader) (n : ℕ) (o : Outcome (List ℕ)) → got n t.at (ahead t) ≡ (count_text (codes "hours") 24 24).read 0 s.at (ahead s) → o ≡ (many tick_on 24).read t.at t.at (ahead t) → o ≡ hours_text.read 0 s.at (ahead s)
unfolding hours_text
hours_on s t n o e h =
    let fits = count_fits (codes "hours") 24 24 0 s n t.at (ahead t) (omega arith) e in
    let all : 24 ≡ n = omega (arith, fits.0, fits.1) in
    sym (second n o) ∙ dressed_told (λ p. p.1) (λ xs. (length xs, xs)) (then (count_text (codes "hours") 24 24) tick_line) 0 s _
    (then_on (count_text (codes "hours") 24 24) tick_line 0 s t n o e (h ∙ ap (λ k. (many tick_on k).read t.at t.at (ahead t)) all))
