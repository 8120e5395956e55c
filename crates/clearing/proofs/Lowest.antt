-- The step of the search for the lowest ranked failing block, and what a verdict is made of.
use Rattle.std.proofs.Common.{◌≡◌, ℕ, ◌+◌, Bool, true, false, List, get_or, Some, None, Option, refl, ap, ◌∙◌, add-one}
use Rattle.clearing.specs.declared.marks.Cause.{Cause}
use Rattle.clearing.specs.declared.marks.Cause.TheVariants.{Loss, Shortage}
use Rattle.clearing.specs.declared.blocks.Block.{Block}
use Rattle.clearing.specs.declared.results.HourResult.{HourResult}
use Rattle.clearing.specs.Verdicts.{cause_of, verdict_of, verdict, loss, short}
use Rattle.clearing.specs.Rounds.{lower_of, lowest_upto}

pub lowest_none : (verdict : ℕ → Option Cause) (before : ℕ → ℕ → Bool) → lowest_upto verdict before 0 ≡ None
unfolding lowest_upto
lowest_none verdict before = refl

-- w is the lowest below n, v the verdict on block n
pub lowest_more : (verdict : ℕ → Option Cause) (before : ℕ → ℕ → Bool) (n : ℕ) (w : Option (ℕ × Cause)) (v : Option Cause) → w ≡ lowest_upto verdict before n → verdict n ≡ v → lower_of before w n v ≡ lowest_upto verdict before (n + 1)
unfolding lowest_upto
lowest_more verdict before n w v e f = rw (add-one, e, f)

pub not_standing : (f l s : Bool) → f ≡ false → cause_of f l s ≡ None
not_standing f l s e = rw e

pub by_loss : (f l s : Bool) → f ≡ true → l ≡ true → cause_of f l s ≡ Some Loss
by_loss f l s e h = rw (e, h)

pub by_shortage : (f l s : Bool) → f ≡ true → l ≡ false → s ≡ true → cause_of f l s ≡ Some Shortage
by_shortage f l s e h k = rw (e, h, k)

pub by_none : (f l s : Bool) → l ≡ false → s ≡ false → cause_of f l s ≡ None
by_none true l s h k = rw (h, k)
by_none false l s h k = refl

pub at_empty : (bs : List (Option Block)) (fs : List Bool) (rs : List HourResult) (k : ℕ) → get_or bs k None ≡ None → verdict bs fs rs k ≡ None
at_empty bs fs rs k e = ap (verdict_of (get_or fs k false) (λ b. loss b rs) (short bs fs rs)) e

pub at_block : (bs : List (Option Block)) (fs : List Bool) (rs : List HourResult) (k : ℕ) (b : Block) (v : Option Cause) → get_or bs k None ≡ Some b → cause_of (get_or fs k false) (loss b rs) (short bs fs rs b) ≡ v → verdict bs fs rs k ≡ v
at_block bs fs rs k b v e h = ap (verdict_of (get_or fs k false) (λ b. loss b rs) (short bs fs rs)) e ∙ h
