-- An item whose value says which byte ends it, and the format of no bytes.
use Rattle.std.specs.Prelude.{ℕ, ◌+◌, List, [], ◌∷◌, ◌++◌, length}
use Rattle.faults.specs.declared.fault.Refusal.TheVariants.{Misfit, OutOfRange}
use Rattle.faults.specs.Refusals.{fault}
use Rattle.text.specs.Format.{Outcome, got, refused, Format, Verdict, fit, unfit, outside, Item, run, after, closed}

-- an item of n bytes at p was judged, and bs follow it: the byte c a ends the value a
abbrev pub judged_by : {A : Type 0} → (A → ℕ) → Verdict A → ℕ → ℕ → ℕ → List ℕ → Outcome A
judged_by c (fit a) l p n bs = closed (c a) a l (p + n) bs
judged_by c unfit l p n bs = refused (fault (Misfit p) l)
judged_by c outside l p n bs = refused (fault (OutOfRange p) l)

-- an item, and after the value a the byte c a
abbrev pub ended : {A : Type 0} → (A → ℕ) → Item A → Format A
ended c I = record {
  read = λ l p bs. judged_by c (I.judge (run bs)) l p (length (run bs)) (after bs);
  text = λ a. I.spell a ++ (c a ∷ []);
  Fits = I.Has;
}

-- no bytes
abbrev pub nothing : Format (Unit {0})
nothing = record { read = λ l p bs. got tt p bs; text = λ _. []; Fits = λ _. Unit {0} }
