-- One line more is written, or none is left.
use Rattle.std.proofs.Common.{◌≡◌, ℕ, ◌+◌, ◌<◌, ◌≤◌, List, [], ◌∷◌, ◌++◌, length, get_or, drop, Result, sym, ap, ◌∙◌, inl, inr, append_assoc, append-nil, arith}
use Rattle.std.proofs.lemmas.List.{at_drop_more, at_drop_all}
use Rattle.std.specs.Prelude.{◌⊎◌}
use Rattle.faults.specs.declared.fault.Fault.{Fault}
use Rattle.report.specs.Lines.{each, answer_line, answer_lines}

-- a line and then the rest
pub step : (out out' line rest whole : List ℕ) → out ++ (line ++ rest) ≡ whole → out' ≡ out ++ line → out' ++ rest ≡ whole
step out out' line rest whole inv e = ap (λ o. o ++ rest) e ∙ append_assoc out line rest ∙ inv

pub one_more : {A : Type 0} (f : ℕ → A → List ℕ) (xs : List A) (i : ℕ) (d : A) (out out' whole : List ℕ) → i < length xs → out ++ each f i (drop i xs) ≡ whole → out' ≡ out ++ f i (get_or xs i d) → out' ++ each f (i + 1) (drop (i + 1) xs) ≡ whole
one_more f xs i d out out' whole h inv e =
    step out out' (f i (get_or xs i d)) (each f (i + 1) (drop (i + 1) xs)) whole (sym (at_drop_more (λ l. out ++ each f i l) xs i d h) ∙ inv) e

pub no_more : {A : Type 0} (f : ℕ → A → List ℕ) (xs : List A) (i : ℕ) (out whole : List ℕ) → length xs ≤ i → out ++ each f i (drop i xs) ≡ whole → out ≡ whole
no_more f xs i out whole h inv = sym (append-nil out) ∙ sym (at_drop_all (λ l. out ++ each f i l) xs i h) ∙ inv

pub four : (o o1 o2 o3 o4 a b c d : List ℕ) → o1 ≡ o ++ a → o2 ≡ o1 ++ b → o3 ≡ o2 ++ c → o4 ≡ o3 ++ d → o4 ≡ o ++ (a ++ (b ++ (c ++ d)))
four o o1 o2 o3 o4 a b c d p q r s = s ∙ ap (λ l. l ++ d) (r ∙ ap (λ l. l ++ c) (q ∙ ap (λ l. l ++ b) p)) ∙ simp append_assoc

-- the answers, line by line, and at the end of the shorter list
pub answer_more : (ls ls' : List ℕ) (answers answers' : List (Result ℕ Fault)) (l : ℕ) (a : Result ℕ Fault) (out out' whole : List ℕ) → ls ≡ l ∷ ls' → answers ≡ a ∷ answers' → out ++ answer_lines ls answers ≡ whole → out' ≡ out ++ answer_line l a → out' ++ answer_lines ls' answers' ≡ whole
unfolding answer_lines
answer_more ls ls' answers answers' l a out out' whole p q inv e =
    step out out' (answer_line l a) (answer_lines ls' answers') whole (sym (ap (λ x. out ++ answer_lines x answers) p ∙ ap (λ x. out ++ answer_lines (l ∷ ls') x) q) ∙ inv) e

pub answers_end : (ls : List ℕ) (answers : List (Result ℕ Fault)) (out whole : List ℕ) → (length ls ≡ 0) ⊎ (length answers ≡ 0) → out ++ answer_lines ls answers ≡ whole → out ≡ whole
unfolding answer_lines
answers_end [] answers out whole spent inv = sym (append-nil out) ∙ inv
answers_end (l ∷ ls) [] out whole spent inv = sym (append-nil out) ∙ inv
answers_end (l ∷ ls) (a ∷ answers) out whole spent inv = elim spent [ inl s ↦ absurd (omega arith) | inr s ↦ absurd (omega arith) ]
