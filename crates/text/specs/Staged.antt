-- Formats whose values pass a rule, and sequences in which each value bears on the next.
use Rattle.std.specs.Prelude.{◌≡◌, ℕ, zero, suc, pred, List, [], ◌∷◌, ◌++◌, length, Ok, Err, Result}
use Rattle.faults.specs.declared.fault.Fault.{Fault}
use Rattle.faults.specs.declared.fault.Refusal.{Refusal}
use Rattle.faults.specs.Refusals.{fault}
use Rattle.text.specs.Format.{Outcome, got, refused, onward, Format}

-- what a rule says of a value
pub data Ruling : Type 0 where
  granted : Ruling
  denied : Refusal → Ruling

-- the first that denies decides
abbrev pub and_then : Ruling → Ruling → Ruling
and_then granted r = r
and_then (denied why) r = denied why

abbrev pub ruled : {A : Type 0} → Ruling → ℕ → A → ℕ → List ℕ → Outcome A
ruled granted l a q cs = got a q cs
ruled (denied why) l a q cs = refused (fault why l)

-- a format and then a rule on its value
abbrev pub checked : {A : Type 0} → (A → Ruling) → Format A → Format A
checked test F = record {
  read = λ l p bs. onward (F.read l p bs) (λ a q cs. ruled (test a) l a q cs);
  text = F.text;
  Fits = λ a. F.Fits a × (test a ≡ granted);
}

-- a value in another dress, of which only some are dressed so
abbrev pub recast : {A B : Type 0} → (A → B) → (B → A) → Format A → Format B
recast to from F = record {
  read = λ l p bs. onward (F.read l p bs) (λ a q cs. got (to a) q cs);
  text = λ b. F.text (from b);
  Fits = λ b. F.Fits (from b) × (to (from b) ≡ b);
}

-- n values, one after another: what the earlier ones left is s, and F s reads the next
abbrev pub staged_read : {S A : Type 0} → (S → Format A) → (S → A → S) → S → ℕ → ℕ → ℕ → List ℕ → Outcome (List A)
staged_read F step s zero l p bs = got [] p bs
staged_read F step s (suc n) l p bs = onward ((F s).read l p bs) (λ a q cs. onward (staged_read F step (step s a) n l q cs) (λ xs r ds. got (a ∷ xs) r ds))

abbrev pub staged_text : {S A : Type 0} → (S → Format A) → (S → A → S) → S → List A → List ℕ
staged_text F step s [] = []
staged_text F step s (a ∷ xs) = (F s).text a ++ staged_text F step (step s a) xs

abbrev pub Stages : {S A : Type 0} → (S → Format A) → (S → A → S) → S → List A → Type 0
Stages F step s [] = Unit {0}
Stages F step s (a ∷ xs) = (F s).Fits a × Stages F step (step s a) xs

abbrev pub staged : {S A : Type 0} → (S → Format A) → (S → A → S) → S → ℕ → Format (List A)
staged F step s n = record {
  read = staged_read F step s n;
  text = staged_text F step s;
  Fits = λ xs. (length xs ≡ n) × Stages F step s xs;
}

-- n values, one after another: F k reads one that k more follow
abbrev pub many : {A : Type 0} → (ℕ → Format A) → ℕ → Format (List A)
many F n = staged (λ m. F (pred m)) (λ m _. pred m) n n

-- what some values leave
abbrev pub left : {S A : Type 0} → (S → A → S) → S → List A → S
left step s [] = s
left step s (a ∷ xs) = left step (step s a) xs

-- a sequence that was read for what it leaves
abbrev pub leaving : {S A : Type 0} → (S → A → S) → S → Outcome (List A) → Outcome S
leaving step s o = onward o (λ xs q cs. got (left step s xs) q cs)

-- an answer that is a ruling's
abbrev pub Ruled : Ruling → ℕ → Result (Unit {0}) Fault → Type 0
Ruled t l (Ok u) = t ≡ granted
Ruled t l (Err f) = (t ≡ denied f.refusal) × (f.line ≡ l)
