-- A reader's way through formats that follow one another, and the turns of a loop over lines.
use Rattle.std.proofs.Common.{◌≡◌, ℕ, suc, pred, List, [], ◌∷◌, ◌++◌, sym, refl, ap, ◌∙◌}
use Rattle.std.proofs.lemmas.List.{append_assoc, append-nil}
use Rattle.faults.specs.declared.fault.Fault.{Fault}
use Rattle.faults.specs.Refusals.{fault}
use Rattle.text.specs.declared.reader.Reader.{Reader}
use Rattle.text.specs.Format.{Outcome, Format, got, refused, onward, then, dressed}
use Rattle.text.specs.Staged.{Ruling, granted, denied, ruled, checked, recast, staged_read, many, leaving}
use Rattle.text.specs.Tokens.{ahead}

-- F gave a and led from s to t, and the second format's reading from there is o
pub then_on : {A B : Type 0} (F : Format A) (G : A → Format B) (l : ℕ) (s t : Reader) (a : A) (o : Outcome B) → got a t.at (ahead t) ≡ F.read l s.at (ahead s) → o ≡ (G a).read l t.at (ahead t) → onward o (λ b r ds. got (a, b) r ds) ≡ (then F G).read l s.at (ahead s)
then_on F G l s t a o e h = ap (λ x. onward x (λ b r ds. got (a, b) r ds)) h ∙ ap (λ x. onward x (λ a q cs. onward ((G a).read l q cs) (λ b r ds. got (a, b) r ds))) e

-- F refused
pub then_no : {A B : Type 0} (F : Format A) (G : A → Format B) (l : ℕ) (s : Reader) (f : Fault) → refused f ≡ F.read l s.at (ahead s) → refused f ≡ (then F G).read l s.at (ahead s)
then_no F G l s f e = ap (λ x. onward x (λ a q cs. onward ((G a).read l q cs) (λ b r ds. got (a, b) r ds))) e

-- a value in another dress
pub dressed_told : {A B : Type 0} (to : A → B) (from : B → A) (F : Format A) (l : ℕ) (s : Reader) (o : Outcome A) → o ≡ F.read l s.at (ahead s) → onward o (λ a q cs. got (to a) q cs) ≡ (dressed to from F).read l s.at (ahead s)
dressed_told to from F l s o e = ap (λ o. onward o (λ a q cs. got (to a) q cs)) e

pub recast_told : {A B : Type 0} (to : A → B) (from : B → A) (F : Format A) (l : ℕ) (s : Reader) (o : Outcome A) → o ≡ F.read l s.at (ahead s) → onward o (λ a q cs. got (to a) q cs) ≡ (recast to from F).read l s.at (ahead s)
recast_told to from F l s o e = ap (λ o. onward o (λ a q cs. got (to a) q cs)) e

-- F refused, or gave a value that the rule grants or denies
module _ {A : Type 0} (test : A → Ruling) (F : Format A) (l : ℕ) (s : Reader) where
  pub checked_no : (f : Fault) → refused f ≡ F.read l s.at (ahead s) → refused f ≡ (checked test F).read l s.at (ahead s)
  checked_no f e = ap (λ o. onward o (λ a q cs. ruled (test a) l a q cs)) e

  module _ (t : Reader) (a : A) (e : got a t.at (ahead t) ≡ F.read l s.at (ahead s)) where
    by_rule : ruled (test a) l a t.at (ahead t) ≡ (checked test F).read l s.at (ahead s)
    by_rule = ap (λ o. onward o (λ a q cs. ruled (test a) l a q cs)) e

    pub checked_granted : test a ≡ granted → got a t.at (ahead t) ≡ (checked test F).read l s.at (ahead s)
    checked_granted g = ap (λ r. ruled r l a t.at (ahead t)) (sym g) ∙ by_rule

    pub checked_denied : (f : Fault) → test a ≡ denied f.refusal → f.line ≡ l → refused f ≡ (checked test F).read l s.at (ahead s)
    checked_denied f d i = ap (λ n. refused (fault f.refusal n)) i ∙ ap (λ r. ruled r l a t.at (ahead t)) (sym d) ∙ by_rule

-- what is left to read, after xs
abbrev pub before : {A : Type 0} → List A → Outcome (List A) → Outcome (List A)
before xs o = onward o (λ ys r ds. got (xs ++ ys) r ds)

before_more : {A : Type 0} (xs : List A) (a : A) (o : Outcome (List A)) → before xs (onward o (λ ys r ds. got (a ∷ ys) r ds)) ≡ before (xs ++ (a ∷ [])) o
before_more xs a (got ys r ds) = ap (λ l. got l r ds) (sym (append_assoc xs (a ∷ []) ys))
before_more xs a (refused f) = refl

-- before the first turn
pub before_none : {A : Type 0} (o : Outcome (List A)) → before [] o ≡ o
before_none (got ys r ds) = refl
before_none (refused f) = refl

leaving_more : {S A : Type 0} (step : S → A → S) (z : S) (a : A) (o : Outcome (List A)) → leaving step z (onward o (λ xs r ds. got (a ∷ xs) r ds)) ≡ leaving step (step z a) o
leaving_more step z a (got xs r ds) = refl
leaving_more step z a (refused f) = refl

-- m values of a staged sequence are still to be read, z being what the earlier ones left and s the reader
module _ {S A : Type 0} (F : S → Format A) (step : S → A → S) (z : S) (l m : ℕ) (s : Reader) where
  abbrev here : Outcome (List A)
  here = staged_read F step z m l s.at (ahead s)

  -- none is left
  pub values_done : (xs : List A) → m ≡ 0 → before xs here ≡ got xs s.at (ahead s)
  values_done xs e = ap (λ n. before xs (staged_read F step z n l s.at (ahead s))) e ∙ ap (λ l. got l s.at (ahead s)) (append-nil xs)

  pub lines_done : m ≡ 0 → leaving step z here ≡ got z s.at (ahead s)
  lines_done e = ap (λ n. leaving step z (staged_read F step z n l s.at (ahead s))) e

  module _ (k : ℕ) (e : m ≡ suc k) where
    opened : (o : Outcome A) → o ≡ (F z).read l s.at (ahead s) → here ≡ onward o (λ a q cs. onward (staged_read F step (step z a) k l q cs) (λ ys r ds. got (a ∷ ys) r ds))
    opened o h = ap (λ n. staged_read F step z n l s.at (ahead s)) e ∙ ap (λ o. onward o (λ a q cs. onward (staged_read F step (step z a) k l q cs) (λ ys r ds. got (a ∷ ys) r ds))) (sym h)

    -- the next was refused
    pub staged_no : (f : Fault) → refused f ≡ (F z).read l s.at (ahead s) → here ≡ refused f
    staged_no f h = opened (refused f) h

    -- the next is a, and led from s to t: the values so far are xs, or what counts is what they leave
    module _ (t : Reader) (a : A) (h : got a t.at (ahead t) ≡ (F z).read l s.at (ahead s)) where
      pub values_on : (xs : List A) → before xs here ≡ before (xs ++ (a ∷ [])) (staged_read F step (step z a) k l t.at (ahead t))
      values_on xs = ap (before xs) (opened (got a t.at (ahead t)) h) ∙ before_more xs a (staged_read F step (step z a) k l t.at (ahead t))

      pub lines_on : leaving step z here ≡ leaving step (step z a) (staged_read F step (step z a) k l t.at (ahead t))
      lines_on = ap (leaving step z) (opened (got a t.at (ahead t)) h) ∙ leaving_more step z a (staged_read F step (step z a) k l t.at (ahead t))

-- m values are still to be read, xs being those so far and s the reader
module _ {A : Type 0} (F : ℕ → Format A) (l m : ℕ) (s : Reader) (xs : List A) where
  pub many_done : m ≡ 0 → before xs ((many F m).read l s.at (ahead s)) ≡ got xs s.at (ahead s)
  many_done e = values_done (λ m. F (pred m)) (λ m _. pred m) m l m s xs e

  module _ (k : ℕ) (e : m ≡ suc k) where
    -- the next was refused
    pub many_no : (f : Fault) → refused f ≡ (F k).read l s.at (ahead s) → before xs ((many F m).read l s.at (ahead s)) ≡ refused f
    many_no f h = ap (λ m. before xs ((many F m).read l s.at (ahead s))) e ∙ ap (before xs) (staged_no (λ m. F (pred m)) (λ m _. pred m) (suc k) l (suc k) s k refl f h)

    -- the next is a, and led from s to t
    pub many_on : (t : Reader) (a : A) → got a t.at (ahead t) ≡ (F k).read l s.at (ahead s) → before xs ((many F m).read l s.at (ahead s)) ≡ before (xs ++ (a ∷ [])) ((many F k).read l t.at (ahead t))
    many_on t a h = ap (λ m. before xs ((many F m).read l s.at (ahead s))) e ∙ values_on (λ m. F (pred m)) (λ m _. pred m) (suc k) l (suc k) s k refl t a h xs
