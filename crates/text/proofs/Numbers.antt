-- Numbers and words are lawful items.
use Rattle.std.proofs.Common.{◌≡◌, ℕ, ◌^◌, ◌<◌, ◌≤◌, Bool, true, false, cond, not, ◌&&◌, eqb, leb, List, [], ◌∷◌, length, get_or, decimal, sym, refl, ap, ◌∙◌, ⊎_elim, arith, rules}
use Rattle.std.specs.Char.{is_ascii_digit}
use Rattle.std.specs.Str.{all_ascii_digits, bytes_eq}
use Rattle.std.proofs.lemmas.Str.Parse.{IsNumeralModel, numerals_by_fold, tells_all_ascii_digits}
use Rattle.std.proofs.lemmas.Fmt.{digits_decimal, digits_value-decimal, decimal-digits_value, decimal_nonempty, first_decimal, decimal_digit}
use Rattle.std.proofs.lemmas.Slice.Eq.{bytes_eq-Decides}
use Rattle.std.proofs.lemmas.Bool.{eqb-true, eqb-false, eq-eqb, ne_eqb, and_parts, leb-true, le-leb, and_from, not-true, not_from_false, or_left, or_right, or_cases, or_from, cases_lt}
use Rattle.text.specs.Format.{fit, unfit, outside, parting}
use Rattle.text.specs.Items.{number_after, numeral, ranged, number, clean, wordy, named, word_of, word}
use Rattle.text.proofs.Laws.{Lawful}

pub own : IsNumeralModel (λ ds. all_ascii_digits ds ≡ true) (number_after 0)
own = numerals_by_fold _ tells_all_ascii_digits number_after (search rules)

digit_clean : (c : ℕ) → is_ascii_digit c ≡ true → parting c ≡ false
digit_clean c h =
    let p = and_parts (leb 48 c) (leb c 57) h in
    let a : 48 ≤ c = leb-true 48 c p.0 in
    or_from (eqb c 32) (eqb c 10) (ne_eqb c 32 (λ e. omega arith)) (ne_eqb c 10 (λ e. omega arith))

pub clean_digits : (ds : List ℕ) → all_ascii_digits ds ≡ true → clean ds ≡ true
clean_digits [] h = refl
clean_digits (d ∷ ds) h =
    let p = and_parts (is_ascii_digit d) (all_ascii_digits ds) h in
    and_from _ _ (not_from_false _ (digit_clean d p.0)) (clean_digits ds p.1)

-- the numeral of its number
pub decimal_of : (bs : List ℕ) → numeral bs ≡ true → number_after 0 bs < 2 ^ 64 → decimal (number_after 0 bs) ≡ bs
decimal_of bs h small =
    let p = and_parts (all_ascii_digits bs) _ h in
    let q = and_parts (not (eqb (length bs) 0)) _ p.1 in
    let some = eqb-false (length bs) 0 (not-true _ q.0) in
    decimal-digits_value own bs p.0 (omega (arith, some)) (λ z. ⊎_elim (λ n. absurd (eqb-false _ _ (not-true _ n) z)) (λ o. eqb-true _ _ o) (or_cases _ _ q.1)) small

pub numeral_decimal : (n : ℕ) → n < 2 ^ 64 → numeral (decimal n) ≡ true
numeral_decimal n small =
    let some = decimal_nonempty n small in
    and_from _ _ (digits_decimal own n small) (and_from _ _ (not_from_false _ (ne_eqb (length (decimal n)) 0 (λ e. omega arith)))
    (⊎_elim
    (λ pos. let first = first_decimal n pos small in or_left _ _ (not_from_false _ (ne_eqb (get_or (decimal n) 0 0) 48 (λ e. omega arith))))
    (λ none. let z : n ≡ 0 = omega arith in or_right _ _ (eq-eqb _ _ (ap (λ m. length (decimal m)) z ∙ ap length (decimal_digit 0 (omega arith)))))
    (cases_lt 0 n)))

ranged_parts : (low high n m : ℕ) → ranged low high n ≡ fit m → (n ≡ m) × (low ≤ n) × (n ≤ high)
ranged_parts low high n m e = go (leb low n && leb n high) refl
  where
    go : (t : Bool) → (leb low n && leb n high) ≡ t → (n ≡ m) × (low ≤ n) × (n ≤ high)
    go true h =
        let e' : fit n ≡ fit m = rw h at e in
        let p = and_parts _ _ h in
        (cc, leb-true _ _ p.0, leb-true _ _ p.1)
    go false h = let e' : outside ≡ fit m = rw h at e in let z : ◌≡◌ {A = ℕ} 0 1 = cc in absurd (omega arith)

pub lawful_number : (low high : ℕ) → high < 2 ^ 64 → Lawful (number low high)
lawful_number low high small = record {
  back = λ bs a e. go bs a e (numeral bs) refl;
  forth = λ a h.
      let fits : a < 2 ^ 64 = omega arith in
      rw (numeral_decimal a fits, digits_value-decimal own a fits, and_from _ _ (le-leb low a h.0) (le-leb a high h.1));
  whole = λ a h. clean_digits (decimal a) (digits_decimal own a (omega arith));
}
  where
    go : (bs : List ℕ) (a : ℕ) → cond (numeral bs) (ranged low high (number_after 0 bs)) unfit ≡ fit a → (t : Bool) → numeral bs ≡ t → (decimal a ≡ bs) × ((low ≤ a) × (a ≤ high))
    go bs a e true h =
        let e' : ranged low high (number_after 0 bs) ≡ fit a = rw h at e in
        let p = ranged_parts low high (number_after 0 bs) a e' in
        (ap decimal (sym p.0) ∙ decimal_of bs h (omega (arith, p.2)), (omega (arith, p.0, p.1), omega (arith, p.0, p.2)))
    go bs a e false h = let e' : unfit ≡ fit a = rw h at e in let z : ◌≡◌ {A = ℕ} 0 1 = cc in absurd (omega arith)

named_back : {A : Type 0} (name : A → List ℕ) (all : List A) (bs : List ℕ) (a : A) → named name all bs ≡ fit a → name a ≡ bs
named_back name [] bs a e = let z : ◌≡◌ {A = ℕ} 0 1 = cc in absurd (omega arith)
named_back name (x ∷ xs) bs a e = step (named_back name xs bs a) (bytes_eq (name x) bs) refl
  where
    step : (named name xs bs ≡ fit a → name a ≡ bs) → (t : Bool) → bytes_eq (name x) bs ≡ t → name a ≡ bs
    step ih true h = let e' : fit x ≡ fit a = rw h at e in let k : x ≡ a = cc in ap name (sym k) ∙ (bytes_eq-Decides (name x) bs).0 h
    step ih false h = ih (rw h at e)

word_back : {A : Type 0} (name : A → List ℕ) (all : List A) (bs : List ℕ) (a : A) → word_of name all bs ≡ fit a → (wordy bs ≡ true) × (name a ≡ bs)
word_back name all bs a e = go (wordy bs) refl
  where
    go : (t : Bool) → wordy bs ≡ t → (wordy bs ≡ true) × (name a ≡ bs)
    go true h = (h, named_back name all bs a (rw h at e))
    go false h = let e' : unfit ≡ fit a = rw h at e in let z : ◌≡◌ {A = ℕ} 0 1 = cc in absurd (omega arith)

pub lawful_word : {A : Type 0} (name : A → List ℕ) (all : List A) → Lawful (word name all)
lawful_word name all = record {
  back = λ bs a e. let k = (word_back name all bs a e).1 in (k, ap (word_of name all) k ∙ e);
  forth = λ a h. h;
  whole = λ a h.
      let w = (word_back name all (name a) a h).0 in
      let p = and_parts (not (eqb (length (name a)) 0)) _ w in
      (and_parts (not (numeral (name a))) _ p.1).1;
}
