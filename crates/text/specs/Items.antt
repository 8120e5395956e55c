-- The items of a text: numbers in a range, and words.
use Rattle.std.specs.Prelude.{◌≡◌, ℕ, ◌+◌, ◌-◌, ◌*◌, ◌≤◌, Bool, true, cond, not, ◌&&◌, ◌||◌, List, [], ◌∷◌, length, Some, None, decimal, Option, ◌==◌, nat_le, slice_index}
use Rattle.std.specs.Str.{all_ascii_digits, bytes_eq}
use Rattle.text.specs.Format.{Verdict, fit, unfit, outside, Item, parting}

-- n, and then the digits of cs
abbrev pub number_after : ℕ → List ℕ → ℕ
number_after n [] = n
number_after n (c ∷ cs) = number_after (n * 10 + (c - 48)) cs

-- digits, the first of which is 0 only where it stands alone
abbrev pub numeral : List ℕ → Bool
numeral bs = all_ascii_digits bs && (not (length bs == 0) && (not (slice_index bs 0 == 48) || length bs == 1))

abbrev pub ranged : ℕ → ℕ → ℕ → Verdict ℕ
ranged low high n = cond (nat_le low n && nat_le n high) (fit n) outside

-- a number from low to high, in decimal with no leading zero
abbrev pub number : ℕ → ℕ → Item ℕ
number low high = record {
  judge = λ bs. cond (numeral bs) (ranged low high (number_after 0 bs)) unfit;
  spell = decimal;
  Has = λ n. (low ≤ n) × (n ≤ high);
}

-- no byte of bs parts items
abbrev pub clean : List ℕ → Bool
clean [] = true
clean (c ∷ cs) = not (parting c) && clean cs

-- a word is not empty, no numeral, and without space and line end
abbrev pub wordy : List ℕ → Bool
wordy bs = not (length bs == 0) && (not (numeral bs) && clean bs)

-- the first of some values whose name is bs
abbrev pub named : {A : Type 0} → (A → List ℕ) → List A → List ℕ → Verdict A
named name [] bs = unfit
named name (a ∷ xs) bs = cond (bytes_eq (name a) bs) (fit a) (named name xs bs)

abbrev pub word_of : {A : Type 0} → (A → List ℕ) → List A → List ℕ → Verdict A
word_of name all bs = cond (wordy bs) (named name all bs) unfit

-- one of some words, each the name of a value
abbrev pub word : {A : Type 0} → (A → List ℕ) → List A → Item A
word name all = record {
  judge = word_of name all;
  spell = name;
  Has = λ a. word_of name all (name a) ≡ fit a;
}

-- the one word w
abbrev pub keyword : List ℕ → Item (Unit {0})
keyword w = word (λ _. w) (tt ∷ [])

-- whether a value has that name
abbrev pub verdict : {A : Type 0} → Option A → Verdict A
verdict (Some a) = fit a
verdict None = unfit
