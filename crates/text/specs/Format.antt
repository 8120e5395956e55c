-- What a text format is: how it is read, how it is written, and which values it has.
--
-- To describe a format, begin with its items and put them together; reading and writing then follow from the one description:
--   item (number 1 999) 32              a number from 1 to 999 and the space after it; 10 for the line end
--   item (word name all) 32             one of the words that `all` lists, each spelt by `name` (Items)
--   then F (λ a. G a)                   F and after it G, which may depend on F's value
--   dressed to from F                   F's value as another type, one to one: a tuple as a struct
--   recast to from F                    the same where only some values of the type come from F: an enum's case (Staged)
--   checked test F                      F and after it a rule on its value, which may refuse (Staged)
--   line F                              F as a line of its own: its faults name the place where it begins
--   staged F step s n                   n values, where F s is read when the earlier ones have left s (Staged)
--   many F n                            n values, where F k is read when k more follow (Staged)
-- Say `line (checked rule items)` for a line with a rule: the rule's refusal then names its line.
-- That a format is `Faithful` follows from one lemma for each of these words (proofs: Laws, Numbers, Stages).
use Rattle.std.specs.Prelude.{◌≡◌, ℕ, ◌+◌, Bool, cond, ◌||◌, List, [], ◌∷◌, ◌++◌, length, ◌==◌}
use Rattle.faults.specs.declared.fault.Fault.{Fault}
use Rattle.faults.specs.declared.fault.Refusal.TheVariants.{Misfit, OutOfRange}
use Rattle.faults.specs.Refusals.{fault}

-- what a reading gives: the value, the place reached and the bytes from there on; or a fault
pub data Outcome (A : Type 0) : Type 0 where
  got : A → ℕ → List ℕ → Outcome A
  refused : Fault → Outcome A

abbrev pub onward : {A B : Type 0} → Outcome A → (A → ℕ → List ℕ → Outcome B) → Outcome B
onward (got a q bs) k = k a q bs
onward (refused f) k = refused f

-- read l p bs reads bs, which stand at the place p, in the line that begins at l
pub record Format (A : Type 0) : Type 1 where
  pub read : ℕ → ℕ → List ℕ → Outcome A
  pub text : A → List ℕ
  pub Fits : A → Type 0

-- what an item may be: a value, no such item (a misfit), or a number outside its range
pub data Verdict (A : Type 0) : Type 0 where
  fit : A → Verdict A
  unfit : Verdict A
  outside : Verdict A

-- an item is a longest run of bytes other than space (32) and line end (10)
pub record Item (A : Type 0) : Type 1 where
  pub judge : List ℕ → Verdict A
  pub spell : A → List ℕ
  pub Has : A → Type 0

abbrev pub parting : ℕ → Bool
parting c = c == 32 || c == 10

abbrev pub run : List ℕ → List ℕ
run [] = []
run (c ∷ cs) = cond (parting c) [] (c ∷ run cs)

abbrev pub after : List ℕ → List ℕ
after [] = []
after (c ∷ cs) = cond (parting c) (c ∷ cs) (after cs)

-- the byte c, and then a
abbrev pub closed : {A : Type 0} → ℕ → A → ℕ → ℕ → List ℕ → Outcome A
closed c a l p [] = refused (fault (Misfit p) l)
closed c a l p (x ∷ xs) = cond (x == c) (got a (p + 1) xs) (refused (fault (Misfit p) l))

-- an item of n bytes at p was judged, and bs follow it
abbrev pub judged : {A : Type 0} → Verdict A → ℕ → ℕ → ℕ → ℕ → List ℕ → Outcome A
judged (fit a) c l p n bs = closed c a l (p + n) bs
judged unfit c l p n bs = refused (fault (Misfit p) l)
judged outside c l p n bs = refused (fault (OutOfRange p) l)

-- an item of n bytes at p was judged, and bs follow it, whatever they are
abbrev pub judged_alone : {A : Type 0} → Verdict A → ℕ → ℕ → ℕ → List ℕ → Outcome A
judged_alone (fit a) l p n bs = got a (p + n) bs
judged_alone unfit l p n bs = refused (fault (Misfit p) l)
judged_alone outside l p n bs = refused (fault (OutOfRange p) l)

-- an item without what ends it
abbrev pub alone : {A : Type 0} → Item A → ℕ → ℕ → List ℕ → Outcome A
alone I l p bs = judged_alone (I.judge (run bs)) l p (length (run bs)) (after bs)

-- an item and the byte c after it
abbrev pub item : {A : Type 0} → Item A → ℕ → Format A
item I c = record {
  read = λ l p bs. judged (I.judge (run bs)) c l p (length (run bs)) (after bs);
  text = λ a. I.spell a ++ (c ∷ []);
  Fits = I.Has;
}

-- one format and then another, which may depend on the first's value
abbrev pub then : {A B : Type 0} → Format A → (A → Format B) → Format (A × B)
then F G = record {
  read = λ l p bs. onward (F.read l p bs) (λ a q cs. onward ((G a).read l q cs) (λ b r ds. got (a, b) r ds));
  text = λ ab. F.text ab.0 ++ (G ab.0).text ab.1;
  Fits = λ ab. F.Fits ab.0 × (G ab.0).Fits ab.1;
}

-- a format whose faults name the place where it begins as their line
abbrev pub line : {A : Type 0} → Format A → Format A
line F = record { read = λ l p bs. F.read p p bs; text = F.text; Fits = F.Fits }

-- a value in another dress
abbrev pub dressed : {A B : Type 0} → (A → B) → (B → A) → Format A → Format B
dressed to from F = record {
  read = λ l p bs. onward (F.read l p bs) (λ a q cs. got (to a) q cs);
  text = λ b. F.text (from b);
  Fits = λ b. F.Fits (from b);
}

-- both ways between text and value: what is read is what would be written, and what is written is read back, whatever follows it
pub record Faithful {A : Type 0} (F : Format A) : Type 0 where
  pub sound : (l p : ℕ) (bs : List ℕ) (a : A) (q : ℕ) (cs : List ℕ) → F.read l p bs ≡ got a q cs → (bs ≡ F.text a ++ cs) × (q ≡ p + length (F.text a)) × F.Fits a
  pub full : (l p : ℕ) (a : A) (cs : List ℕ) → F.Fits a → F.read l p (F.text a ++ cs) ≡ got a (p + length (F.text a)) cs
