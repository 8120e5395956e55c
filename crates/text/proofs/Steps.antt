-- What a reader's step says of the format.
use Rattle.std.proofs.Common.{◌≡◌, ℕ, ◌+◌, Bool, true, false, cond, not, ◌&&◌, eqb, List, [], ◌∷◌, length, drop, IsErrAnd, Result, sym, refl, ap, ◌∙◌, subst, ⊎_elim, arith}
use Rattle.std.proofs.lemmas.List.{drop-drop, drop_at}
use Rattle.std.proofs.lemmas.Result.{err_from_is_err_and}
use Rattle.std.proofs.lemmas.Bool.{ne_eqb, cases_eq, or_from, and_from, and_left, and_right, not_from_true, not_from_false}
use Rattle.faults.specs.declared.fault.Fault.{Fault}
use Rattle.faults.specs.declared.fault.Refusal.TheVariants.{Misfit, OutOfRange}
use Rattle.faults.specs.Refusals.{fault}
use Rattle.text.specs.declared.close.Close.{Close}
use Rattle.text.specs.declared.close.Close.TheVariants.{Space, Line}
use Rattle.text.specs.declared.reader.Reader.{Reader}
use Rattle.text.specs.Closing.{close_byte, closes}
use Rattle.text.specs.Format.{Outcome, got, refused, onward, Verdict, fit, unfit, outside, Item, parting, run, after, closed, judged, judged_alone, alone, item}
use Rattle.text.specs.Items.{numeral, number_after, ranged, number, clean, word_of, word}
use Rattle.text.specs.Tokens.{Seen, a_word, a_number, a_space, a_line, an_end, token_of, size, number_seen, word_seen, answered, ahead, told, filled}
use Rattle.text.proofs.Laws.{run_after}
use Rattle.text.proofs.Tokenings.{head_token, choose}

-- a reader that moved on by n bytes
pub moved : (s t : Reader) (n : ℕ) → t.at ≡ s.at + n → t.input.now ≡ s.input.now → ahead t ≡ drop n (ahead s)
moved s t n e i = (λ j. drop (e j) (i j)) ∙ sym (drop-drop n s.at s.input.now)

pub after_run : (bs : List ℕ) → drop (length (run bs)) bs ≡ after bs
after_run bs = ap (drop (length (run bs))) (sym (run_after bs)) ∙ drop_at (run bs) (after bs) (length (run bs)) refl

-- the token at bs, and how it is made
pub data Front : List ℕ → Seen → Type 0 where
  nothing : Front [] an_end
  space : (cs : List ℕ) → Front (32 ∷ cs) a_space
  line : (cs : List ℕ) → Front (10 ∷ cs) a_line
  longer : (c : ℕ) (cs : List ℕ) → (c ≡ 32 → ⊥) → (c ≡ 10 → ⊥) → Front (c ∷ cs) (choose (run (c ∷ cs)))

pub front : (bs : List ℕ) → Front bs (token_of bs)
front [] = nothing
front (c ∷ cs) =
    ⊎_elim (λ e. subst (λ x. Front (x ∷ cs) (token_of (x ∷ cs))) (sym e) (space cs))
    (λ no32. ⊎_elim (λ e. subst (λ x. Front (x ∷ cs) (token_of (x ∷ cs))) (sym e) (line cs))
    (λ no10. subst (Front (c ∷ cs)) (sym (head_token c cs no32 no10)) (longer c cs no32 no10))
    (cases_eq c 10))
    (cases_eq c 32)

chosen_open : (e : Close) (ds : List ℕ) → closes e (choose ds) ≡ false
chosen_open Space ds = elim (numeral ds) as (λ t. closes Space (cond t (a_number ds) (a_word ds)) ≡ false) [ true ↦ refl | false ↦ refl ]
chosen_open Line ds = elim (numeral ds) as (λ t. closes Line (cond t (a_number ds) (a_word ds)) ≡ false) [ true ↦ refl | false ↦ refl ]

pub closed_by : (e : Close) (l p : ℕ) (bs : List ℕ) (t : Seen) → Front bs t → ◌≡◌ {A = Outcome (Unit {0})} (closed (close_byte e) (tt {0}) l p bs) (cond (closes e t) (got (tt {0}) (p + 1) (drop 1 bs)) (refused (fault (Misfit p) l)))
closed_by Space l p [] t nothing = refl
closed_by Line l p [] t nothing = refl
closed_by Space l p (x ∷ xs) t (space cs) = refl
closed_by Line l p (x ∷ xs) t (space cs) = refl
closed_by Space l p (x ∷ xs) t (line cs) = refl
closed_by Line l p (x ∷ xs) t (line cs) = refl
closed_by Space l p (x ∷ xs) t (longer c cs no32 no10) = rw (chosen_open Space (run (c ∷ cs)), ne_eqb c 32 no32)
closed_by Line l p (x ∷ xs) t (longer c cs no32 no10) = rw (chosen_open Line (run (c ∷ cs)), ne_eqb c 10 no10)

-- the byte that ends an item was there
pub closed_there : (e : Close) (l : ℕ) (s t : Reader) → closes e (token_of (ahead s)) ≡ true → t.at ≡ s.at + size (token_of (ahead s)) → t.input.now ≡ s.input.now → ◌≡◌ {A = Outcome (Unit {0})} (got (tt {0}) t.at (ahead t)) (closed (close_byte e) (tt {0}) l s.at (ahead s))
closed_there e l s t h m i =
    let one : size (token_of (ahead s)) ≡ 1 = size_one e (token_of (ahead s)) h in
    let at : t.at ≡ s.at + 1 = omega arith in
    sym (closed_by e l s.at (ahead s) (token_of (ahead s)) (front (ahead s)) ∙ rw h (λ j. got (tt {0}) (sym at j) (sym (moved s t 1 at i) j)))
  where
    size_one : (e : Close) (t : Seen) → closes e t ≡ true → size t ≡ 1
    size_one Space (a_word w) h = let z : ◌≡◌ {A = ℕ} 0 1 = cc in absurd (omega arith)
    size_one Space (a_number d) h = let z : ◌≡◌ {A = ℕ} 0 1 = cc in absurd (omega arith)
    size_one Space a_space h = refl
    size_one Space a_line h = let z : ◌≡◌ {A = ℕ} 0 1 = cc in absurd (omega arith)
    size_one Space an_end h = let z : ◌≡◌ {A = ℕ} 0 1 = cc in absurd (omega arith)
    size_one Line (a_word w) h = let z : ◌≡◌ {A = ℕ} 0 1 = cc in absurd (omega arith)
    size_one Line (a_number d) h = let z : ◌≡◌ {A = ℕ} 0 1 = cc in absurd (omega arith)
    size_one Line a_space h = let z : ◌≡◌ {A = ℕ} 0 1 = cc in absurd (omega arith)
    size_one Line a_line h = refl
    size_one Line an_end h = let z : ◌≡◌ {A = ℕ} 0 1 = cc in absurd (omega arith)

-- a token with bytes of its own
abbrev pub lettered : Seen → Bool
lettered (a_word w) = true
lettered (a_number d) = true
lettered a_space = false
lettered a_line = false
lettered an_end = false

-- such a token is as long as the item
lettered_size : (bs : List ℕ) (t : Seen) → Front bs t → lettered t ≡ true → size t ≡ length (run bs)
lettered_size [] t nothing h = refl
lettered_size (x ∷ xs) t (space cs) h = let z : ◌≡◌ {A = ℕ} 0 1 = cc in absurd (omega arith)
lettered_size (x ∷ xs) t (line cs) h = let z : ◌≡◌ {A = ℕ} 0 1 = cc in absurd (omega arith)
lettered_size (x ∷ xs) t (longer c cs no32 no10) h = elim (numeral (run (c ∷ cs))) as (λ b. size (cond b (a_number (run (c ∷ cs))) (a_word (run (c ∷ cs)))) ≡ length (run (c ∷ cs))) [ true ↦ refl | false ↦ refl ]

clean_run : (bs : List ℕ) → clean (run bs) ≡ true
clean_run [] = refl
clean_run (c ∷ cs) = go (clean_run cs) (parting c) refl
  where
    go : clean (run cs) ≡ true → (t : Bool) → parting c ≡ t → clean (cond (parting c) [] (c ∷ run cs)) ≡ true
    go ih true h = rw h
    go ih false h = ap (λ t. clean (cond t [] (c ∷ run cs))) h ∙ rw h ih

-- look judges a token as I judges the item there
pub record Looks {A : Type 0} (I : Item A) (look : Seen → Verdict A) : Type 0 where
  pub same : (bs : List ℕ) → look (token_of bs) ≡ I.judge (run bs)
  pub letters : (t : Seen) (a : A) → look t ≡ fit a → lettered t ≡ true

pub looks_number : (low high : ℕ) → Looks (number low high) (number_seen low high)
looks_number low high = record { same = λ bs. same bs (token_of bs) (front bs); letters = letters }
  where
    same : (bs : List ℕ) (t : Seen) → Front bs t → number_seen low high t ≡ (number low high).judge (run bs)
    same [] t nothing = refl
    same (x ∷ xs) t (space cs) = refl
    same (x ∷ xs) t (line cs) = refl
    same (x ∷ xs) t (longer c cs no32 no10) =
        let ds = run (c ∷ cs) in
        elim (numeral ds) as (λ b. number_seen low high (cond b (a_number ds) (a_word ds)) ≡ cond b (ranged low high (number_after 0 ds)) unfit) [ true ↦ refl | false ↦ refl ]

    letters : (t : Seen) (n : ℕ) → number_seen low high t ≡ fit n → lettered t ≡ true
    letters (a_word w) n e = refl
    letters (a_number d) n e = refl
    letters a_space n e = let z : ◌≡◌ {A = ℕ} 0 1 = cc in absurd (omega arith)
    letters a_line n e = let z : ◌≡◌ {A = ℕ} 0 1 = cc in absurd (omega arith)
    letters an_end n e = let z : ◌≡◌ {A = ℕ} 0 1 = cc in absurd (omega arith)

pub looks_word : {A : Type 0} (name : A → List ℕ) (all : List A) → Looks (word name all) (word_seen name all)
looks_word {A} name all = record { same = λ bs. same bs (token_of bs) (front bs); letters = letters }
  where
    chosen : (ds : List ℕ) → (length ds ≡ 0 → ⊥) → clean ds ≡ true → (b : Bool) → numeral ds ≡ b → word_seen name all (choose ds) ≡ word_of name all ds
    chosen ds some neat true h = rw (and_right (not (eqb (length ds) 0)) (not (numeral ds) && clean ds) (and_left (not (numeral ds)) (clean ds) (not_from_true (numeral ds) h)), h)
    chosen ds some neat false h = rw (and_from (not (eqb (length ds) 0)) (not (numeral ds) && clean ds) (not_from_false (eqb (length ds) 0) (ne_eqb (length ds) 0 some)) (and_from (not (numeral ds)) (clean ds) (not_from_false (numeral ds) h) neat), h)

    same : (bs : List ℕ) (t : Seen) → Front bs t → word_seen name all t ≡ word_of name all (run bs)
    same [] t nothing = refl
    same (x ∷ xs) t (space cs) = refl
    same (x ∷ xs) t (line cs) = refl
    same (x ∷ xs) t (longer c cs no32 no10) =
        let part : parting c ≡ false = or_from (eqb c 32) (eqb c 10) (ne_eqb c 32 no32) (ne_eqb c 10 no10) in
        let long : length (run (c ∷ cs)) ≡ length (c ∷ run cs) = ap (λ b. length (cond b [] (c ∷ run cs))) part in
        chosen (run (c ∷ cs)) (λ e. omega arith) (clean_run (c ∷ cs)) (numeral (run (c ∷ cs))) refl

    letters : (t : Seen) (a : A) → word_seen name all t ≡ fit a → lettered t ≡ true
    letters (a_word w) a e = refl
    letters (a_number d) a e = refl
    letters a_space a e = let z : ◌≡◌ {A = ℕ} 0 1 = cc in absurd (omega arith)
    letters a_line a e = let z : ◌≡◌ {A = ℕ} 0 1 = cc in absurd (omega arith)
    letters an_end a e = let z : ◌≡◌ {A = ℕ} 0 1 = cc in absurd (omega arith)

pub closed_value : {A : Type 0} (c : ℕ) (a : A) (l p : ℕ) (bs : List ℕ) → closed c a l p bs ≡ onward (closed c (tt {0}) l p bs) (λ _ q cs. got a q cs)
closed_value c a l p [] = refl
closed_value c a l p (x ∷ xs) = elim (eqb x c) as (λ t. cond t (got a (p + 1) xs) (refused (fault (Misfit p) l)) ≡ onward (cond t (got (tt {0}) (p + 1) xs) (refused (fault (Misfit p) l))) (λ _ q cs. got a q cs)) [ true ↦ refl | false ↦ refl ]

-- a token was taken at s, at the place p, and judged so; t is the reader past it
pub alone_told : {A : Type 0} (I : Item A) (look : Seen → Verdict A) → Looks I look → (l : ℕ) (s t : Reader) (token : Seen) (p : ℕ) (r : Result A Fault) → r ≡ answered (look token) p l → token ≡ token_of (ahead s) → p ≡ s.at → t.at ≡ s.at + size (token_of (ahead s)) → t.input.now ≡ s.input.now → told r t ≡ alone I l s.at (ahead s)
alone_told {A} I look k l s t token p r e seen place at i = ap (λ r. told r t) e ∙ go (look token) (ap look seen) ∙ ap (λ v. judged_alone v l s.at (length (run (ahead s))) (after (ahead s))) (k.same (ahead s))
  where
    go : (v : Verdict A) → v ≡ look (token_of (ahead s)) → told (answered v p l) t ≡ judged_alone (look (token_of (ahead s))) l s.at (length (run (ahead s))) (after (ahead s))
    go (fit a) h =
        let n = lettered_size (ahead s) (token_of (ahead s)) (front (ahead s)) (k.letters (token_of (ahead s)) a (sym h)) in
        let at' : t.at ≡ s.at + length (run (ahead s)) = at ∙ ap (λ m. s.at + m) n in
        (λ x. got a (at' x) ((moved s t (length (run (ahead s))) at' i ∙ after_run (ahead s)) x)) ∙ ap (λ v. judged_alone v l s.at (length (run (ahead s))) (after (ahead s))) h
    go unfit h = ap (λ p. refused (fault (Misfit p) l)) place ∙ ap (λ v. judged_alone v l s.at (length (run (ahead s))) (after (ahead s))) h
    go outside h = ap (λ p. refused (fault (OutOfRange p) l)) place ∙ ap (λ v. judged_alone v l s.at (length (run (ahead s))) (after (ahead s))) h

-- an item, and then what ends it
judged_then : {A : Type 0} (v : Verdict A) (c l p n : ℕ) (bs : List ℕ) → onward (judged_alone v l p n bs) (λ a q cs. closed c a l q cs) ≡ judged v c l p n bs
judged_then (fit a) c l p n bs = refl
judged_then unfit c l p n bs = refl
judged_then outside c l p n bs = refl

module _ {A : Type 0} (I : Item A) (c l : ℕ) (s : Reader) where
  -- the item led from s to t, and o is the reading of what ends it
  pub item_on : (t : Reader) (a : A) (o : Outcome (Unit {0})) → got a t.at (ahead t) ≡ alone I l s.at (ahead s) → o ≡ closed c (tt {0}) l t.at (ahead t) → onward o (λ _ q cs. got a q cs) ≡ (item I c).read l s.at (ahead s)
  item_on t a o e h =
      ap (λ o. onward o (λ _ q cs. got a q cs)) h ∙ sym (closed_value c a l t.at (ahead t)) ∙ ap (λ o. onward o (λ a q cs. closed c a l q cs)) e
      ∙ judged_then (I.judge (run (ahead s))) c l s.at (length (run (ahead s))) (after (ahead s))

  -- the item does not fit
  pub item_no : (f : Fault) → refused f ≡ alone I l s.at (ahead s) → refused f ≡ (item I c).read l s.at (ahead s)
  item_no f e = ap (λ o. onward o (λ a q cs. closed c a l q cs)) e ∙ judged_then (I.judge (run (ahead s))) c l s.at (length (run (ahead s))) (after (ahead s))

-- what the exit of a `?` tells
pub told_err : {A : Type 0} (r : Result A Fault) (f : Fault) (s : Reader) → IsErrAnd r (λ y. y ≡ f) → told r s ≡ refused f
told_err r f s e = let p = err_from_is_err_and r e in rw (p.1, p.2)

pub filled_err : {U A : Type 0} (r : Result U Fault) (f : Fault) (a : A) (s : Reader) → IsErrAnd r (λ y. y ≡ f) → filled r a s ≡ refused f
filled_err r f a s e = let p = err_from_is_err_and r e in rw (p.1, p.2)

pub only_tt : (o : Outcome (Unit {0})) → onward o (λ _ q cs. got (tt {0}) q cs) ≡ o
only_tt (got u q cs) = refl
only_tt (refused f) = refl
