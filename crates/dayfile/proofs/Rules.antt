-- What the answers to an order say of the rule of its line.
use Rattle.std.proofs.Common.{◌≡◌, ℕ, Bool, true, false, List, [], ◌∷◌, Ok, Err, Result, sym, refl, ap, ◌∙◌, arith}
use Rattle.std.proofs.lemmas.Bool.{eq-eqb}
use Rattle.std.specs.Result.{result_map_both}
use Rattle.faults.specs.declared.fault.Fault.{Fault}
use Rattle.faults.specs.Answers.{granting, viewed}
use Rattle.faults.specs.Refusals.{fault}
use Rattle.book.specs.declared.drafts.Draft.{Draft}
use Rattle.book.specs.Bids.{Asked, Place}
use Rattle.book.specs.Conditions.{Condition, decide, unless}
use Rattle.book.specs.Drafted.{too_many, asked_of, draft_verdict}
use Rattle.book.specs.Entering.{enter_refusals, written, enter_answer, entered, of_table, in_table}
use Rattle.book.specs.Verdicts.{verdict}
use Rattle.book.specs.Views.{ticket_of}
use Rattle.book.specs.declared.tickets.Ticket.{Ticket}
use Rattle.text.specs.Staged.{Ruled, granted, denied, and_then}
use Rattle.dayfile.specs.Day.{ruling, line_rule}
use Rattle.dayfile.specs.Loading.{book_of}

granting_no : {A : Type 0} (v : Result (Unit {0}) Fault) (a : A) (f : Fault) → Err f ≡ granting v a → v ≡ Err f
granting_no (Ok u) a f e = let z : ◌≡◌ {A = ℕ} 0 1 = cc in absurd (omega arith)
granting_no (Err g) a f e = let k : g ≡ f = cc in ap Err k

granting_yes : {A : Type 0} (v : Result (Unit {0}) Fault) (a x : A) → Ok x ≡ granting v a → (v ≡ Ok tt) × (x ≡ a)
granting_yes (Ok u) a x e = (refl, cc)
granting_yes (Err g) a x e = let z : ◌≡◌ {A = ℕ} 0 1 = cc in absurd (omega arith)

-- what a granted call leaves
decided : {A B : Type 0} (cs : List Condition) (x y : A) (new old : B) → Ok y ≡ decide cs x → unless cs new old ≡ new
decided [] x y new old e = refl
decided {A} {B} (c ∷ cs) x y new old e = go (decided cs x y new old) c.holds refl
  where
    go : (Ok y ≡ decide cs x → unless cs new old ≡ new) → (t : Bool) → c.holds ≡ t → unless (c ∷ cs) new old ≡ new
    go ih true h = let e' : Ok y ≡ Err _ = rw h at e in let z : ◌≡◌ {A = ℕ} 0 1 = cc in absurd (omega arith)
    go ih false h = rw h (ih (rw h at e))

in_table_is : {A : Type 0} (m : ℕ) (answer : Result A Fault) → m ≡ 256 → of_table m answer ≡ answer
in_table_is m answer e = rw (eq-eqb m 256 e)

of_table_is : {A : Type 0} (m : ℕ) (new old : A) → m ≡ 256 → in_table m new old ≡ new
of_table_is m new old e = rw (eq-eqb m 256 e)

-- a call's answer, with its fault in the line that begins at l
abbrev pub in_line : {A : Type 0} → ℕ → Result A Fault → Result A Fault
in_line l r = result_map_both (λ a. a) (λ f. fault f.refusal l) r

module _ (n : ℕ) (ps : List Place) (given : ℕ) (d : Draft) (few : too_many d.terms ≡ false) where
  own : draft_verdict n d ≡ verdict n (asked_of d)
  unfolding draft_verdict
  own = rw few

  -- the order's own refusal
  own_denied : (why : Fault) → Err why ≡ granting (draft_verdict n d) (asked_of d) → line_rule n (book_of ps given) (asked_of d) ≡ denied why.refusal
  unfolding line_rule
  own_denied why e = ap (λ v. and_then (ruling v) (ruling (enter_answer ps given (asked_of d)))) (sym own ∙ granting_no (draft_verdict n d) (asked_of d) why e)

  pub own_line : (l : ℕ) (r : Result Ticket Fault) (f : Fault) → viewed ticket_of r ≡ granting (draft_verdict n d) (asked_of d) → in_line l r ≡ Err f → Ruled (line_rule n (book_of ps given) (asked_of d)) l (Err f)
  own_line l (Ok x) f e k = let z : ◌≡◌ {A = ℕ} 0 1 = cc in absurd (omega arith)
  own_line l (Err why) f e k = let same : fault why.refusal l ≡ f = cc in (own_denied why e ∙ ap (λ g. denied g.refusal) same, ap (λ g. g.line) (sym same))

  pub own_granted : (l : ℕ) (r : Result Ticket Fault) (t : Ticket) → viewed ticket_of r ≡ granting (draft_verdict n d) (asked_of d) → in_line l r ≡ Ok t → Ok (ticket_of t) ≡ granting (draft_verdict n d) (asked_of d)
  own_granted l (Ok u) t e k = let same : u ≡ t = cc in ap (λ v. Ok (ticket_of v)) (sym same) ∙ e
  own_granted l (Err why) t e k = let z : ◌≡◌ {A = ℕ} 0 1 = cc in absurd (omega arith)

  -- the order x has none, and a table of m rows answers
  module _ (x : Asked) (e : Ok x ≡ granting (draft_verdict n d) (asked_of d)) (m : ℕ) (whole : m ≡ 256) where
    by_table : line_rule n (book_of ps given) (asked_of d) ≡ ruling (of_table m (enter_answer ps given x))
    unfolding line_rule
    by_table =
        let g = granting_yes (draft_verdict n d) (asked_of d) x e in
        ap (λ v. and_then (ruling v) (ruling (enter_answer ps given (asked_of d)))) (sym own ∙ g.0) ∙ ap (λ a. ruling (enter_answer ps given a)) (sym g.1) ∙ ap ruling (sym (in_table_is m (enter_answer ps given x) whole))

    table_denied : (why : Fault) → Err why ≡ of_table m (enter_answer ps given x) → line_rule n (book_of ps given) (asked_of d) ≡ denied why.refusal
    table_denied why h = by_table ∙ ap ruling (sym h)

    pub table_line : (l : ℕ) (r : Result ℕ Fault) (f : Fault) → r ≡ of_table m (enter_answer ps given x) → in_line l r ≡ Err f → Ruled (line_rule n (book_of ps given) (asked_of d)) l (Err f)
    table_line l (Ok k) f h k' = let z : ◌≡◌ {A = ℕ} 0 1 = cc in absurd (omega arith)
    table_line l (Err why) f h k' = let same : fault why.refusal l ≡ f = cc in (table_denied why h ∙ ap (λ g. denied g.refusal) same, ap (λ g. g.line) (sym same))

    table_granted : (k : ℕ) → Ok k ≡ of_table m (enter_answer ps given x) → line_rule n (book_of ps given) (asked_of d) ≡ granted
    table_granted k h = by_table ∙ ap ruling (sym h)

    table_written : (k : ℕ) (now : List Place) → Ok k ≡ of_table m (enter_answer ps given x) → now ≡ in_table m (entered ps given x) ps → now ≡ written ps given (asked_of d)
    table_written k now h w =
        w ∙ of_table_is m (entered ps given x) ps whole ∙ decided (enter_refusals ps given x) _ k (written ps given x) ps (h ∙ in_table_is m (enter_answer ps given x) whole)
        ∙ ap (written ps given) (granting_yes (draft_verdict n d) (asked_of d) x e).1

    -- it is granted, and the order is written
    pub table_done : (l : ℕ) (r : Result ℕ Fault) (k : ℕ) (now : List Place) → r ≡ of_table m (enter_answer ps given x) → now ≡ in_table m (entered ps given x) ps → in_line l r ≡ Ok k → (line_rule n (book_of ps given) (asked_of d) ≡ granted) × (now ≡ written ps given (asked_of d))
    table_done l (Ok j) k now h w e = (table_granted j h, table_written j now h w)
    table_done l (Err why) k now h w e = let z : ◌≡◌ {A = ℕ} 0 1 = cc in absurd (omega arith)
