-- The scans of the input by the words of chains of iterators.
use Rattle.std.proofs.Common.{◌≡◌, ℕ, ◌+◌, ◌-◌, ◌*◌, ◌≤◌, min, true, false, cond, not, List, [], ◌∷◌, length, take, unwrap_or, refl, ap, ◌∙◌, one-add, arith}
use Rattle.std.proofs.lemmas.List.Sums.{prefix_len-le-length}
use Rattle.std.specs.List.{fold, position, position_or_len}
use Rattle.text.specs.Format.{parting, run}
use Rattle.text.specs.Items.{number_after}

pub run_first : (bs : List ℕ) → take (unwrap_or (position parting bs) (length bs)) bs ≡ run bs
run_first bs = ap (λ n. take n bs) (position_end bs) ∙ go bs
  where
    position_end : (bs : List ℕ) → unwrap_or (position parting bs) (length bs) ≡ position_or_len parting bs
    position_end bs = grind (arith, prefix_len-le-length)

    go : (bs : List ℕ) → take (position_or_len parting bs) bs ≡ run bs
    go [] = refl
    go (c ∷ cs) = elim (parting c) as (λ t. take (cond (not t) (1 + position_or_len parting cs) 0) (c ∷ cs) ≡ cond t [] (c ∷ run cs)) [ true ↦ refl | false ↦ ap (λ n. take n (c ∷ cs)) (one-add (position_or_len parting cs)) ∙ ap (λ l. c ∷ l) (go cs) ]

pub run_within : (bs : List ℕ) → length (run bs) ≤ length bs
run_within [] = omega arith
run_within (c ∷ cs) = elim (parting c) as (λ t. length (cond t [] (c ∷ run cs)) ≤ length (c ∷ cs)) [ true ↦ omega arith | false ↦ omega (arith, run_within cs) ]

-- digits that are read into 64 bits, and stay at the greatest number where it is reached
pub capped : (m n : ℕ) (ds : List ℕ) → m ≡ min 18446744073709551615 n → fold (λ n d. min 18446744073709551615 (min 18446744073709551615 (n * 10) + (d - 48))) m ds ≡ min 18446744073709551615 (number_after n ds)
capped m n [] h = h
capped m n (d ∷ ds) h = capped (min 18446744073709551615 (min 18446744073709551615 (m * 10) + (d - 48))) (n * 10 + (d - 48)) ds (omega arith)
