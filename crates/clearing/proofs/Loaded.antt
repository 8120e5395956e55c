-- The load of a side, summed over the places and which of them stand.
use Rattle.std.proofs.Common.{◌≡◌, ℕ, Bool, false, List, length, None, sum_by, Option, ap, sym, ◌∙◌, arith}
use Rattle.std.specs.List.{zip}
use Rattle.std.proofs.lemmas.List.{take_all}
use Rattle.std.proofs.lemmas.Slice.Zip.{length-zip, get_or-zip}
use Rattle.curves.specs.declared.sides.Side.{Side}
use Rattle.clearing.specs.declared.blocks.Block.{Block}
use Rattle.clearing.specs.Verdicts.{adds_of, adds, load_of}
use Rattle.clearing.proofs.Uptos.{upto_same, sum_upto}

abbrev pub asked : Side → ℕ → Option Block × Bool → ℕ
asked s h p = adds_of p.1 s h p.0

pub zipped : (bs : List (Option Block)) (fs : List Bool) (s : Side) (h : ℕ) → length fs ≡ length bs → sum_by (asked s h) (zip bs fs) ≡ load_of bs fs s h
zipped bs fs s h even =
    let long : length (zip bs fs) ≡ length bs = omega (arith, length-zip bs fs) in
    ap (sum_by (asked s h)) (sym (take_all (length bs) (zip bs fs) (omega (arith, long))))
    ∙ sym (sum_upto (asked s h) (None, false) (zip bs fs) (length bs) (omega (arith, long)))
    ∙ upto_same _ (adds bs fs s h) (length bs) (λ k l. ap (asked s h) (get_or-zip bs fs k (None, false) l (omega arith)))
