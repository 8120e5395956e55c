-- The tokens of a text, and what a reader's answer says.
use Rattle.std.specs.Prelude.{ℕ, cond, List, [], ◌∷◌, length, drop, Ok, Err, Result, ◌==◌}
use Rattle.faults.specs.declared.fault.Fault.{Fault}
use Rattle.faults.specs.declared.fault.Refusal.TheVariants.{Misfit, OutOfRange}
use Rattle.faults.specs.Refusals.{fault}
use Rattle.text.specs.declared.reader.Reader.{Reader}
use Rattle.text.specs.declared.reader.Token.{Token}
use Rattle.text.specs.declared.reader.Token.TheVariants.{Word, Number, Space, Line, End}
use Rattle.text.specs.Format.{Outcome, got, refused, Verdict, fit, unfit, outside, run}
use Rattle.text.specs.Items.{numeral, number_after, ranged, named}

-- a token by its bytes
pub data Seen : Type 0 where
  a_word : List ℕ → Seen
  a_number : List ℕ → Seen
  a_space : Seen
  a_line : Seen
  an_end : Seen

abbrev pub seen : Token → Seen
seen (Word w) = a_word w.now
seen (Number d) = a_number d.now
seen Space = a_space
seen Line = a_line
seen End = an_end

-- the token that bs begin with
abbrev pub token_of : List ℕ → Seen
token_of [] = an_end
token_of (c ∷ cs) = cond (c == 32) a_space (cond (c == 10) a_line (cond (numeral (run (c ∷ cs))) (a_number (run (c ∷ cs))) (a_word (run (c ∷ cs)))))

abbrev pub size : Seen → ℕ
size (a_word w) = length w
size (a_number d) = length d
size a_space = 1
size a_line = 1
size an_end = 0

-- a token where a number from low to high is due
abbrev pub number_seen : ℕ → ℕ → Seen → Verdict ℕ
number_seen low high (a_word w) = unfit
number_seen low high (a_number d) = ranged low high (number_after 0 d)
number_seen low high a_space = unfit
number_seen low high a_line = unfit
number_seen low high an_end = unfit

-- a token where a word is due
abbrev pub word_seen : {A : Type 0} → (A → List ℕ) → List A → Seen → Verdict A
word_seen name all (a_word w) = named name all w
word_seen name all (a_number d) = unfit
word_seen name all a_space = unfit
word_seen name all a_line = unfit
word_seen name all an_end = unfit

-- the answer to an item at p that was judged
abbrev pub answered : {A : Type 0} → Verdict A → ℕ → ℕ → Result A Fault
answered (fit a) p l = Ok a
answered unfit p l = Err (fault (Misfit p) l)
answered outside p l = Err (fault (OutOfRange p) l)

-- the input from the reader's place on
abbrev pub ahead : Reader → List ℕ
ahead s = drop s.at s.input.now

-- an answer as a reading that ends where the reader stands
abbrev pub told : {A : Type 0} → Result A Fault → Reader → Outcome A
told (Ok a) s = got a s.at (ahead s)
told (Err f) s = refused f

-- an answer whose value stands in a table
abbrev pub filled : {U A : Type 0} → Result U Fault → A → Reader → Outcome A
filled (Ok u) a s = got a s.at (ahead s)
filled (Err f) a s = refused f
