-- An hour in which the dropped block has no part need not be priced again.
use Rattle.std.proofs.Common.{◌≡◌, ℕ, ◌+◌, Bool, true, false, cond, ◌&&◌, List, length, get_or, set, Some, None, Option, sym, refl, ap, ◌∙◌, inl, inr}
use mathlib.Core.Path.{fun_ext}
use Rattle.std.proofs.lemmas.Bool.{cases_eq}
use Rattle.std.proofs.lemmas.List.{get_or-set_other}
use Rattle.curves.specs.declared.sides.Side.{Side}
use Rattle.curves.specs.declared.sides.Side.TheVariants.{Buy, Sell}
use Rattle.book.specs.Bids.{Place}
use Rattle.book.specs.Shown.{same_side}
use Rattle.clearing.specs.declared.blocks.Block.{Block}
use Rattle.clearing.specs.Upto.{upto}
use Rattle.clearing.specs.Verdicts.{adds_of, adds, load_of}
use Rattle.clearing.specs.Clearing.{result_of, has_hour}
use Rattle.clearing.proofs.Plain.{with_loads}

never : (f g r : Bool) (v : ℕ) → cond (f && (r && false)) v 0 ≡ cond (g && (r && false)) v 0
never true true r v = refl
never true false true v = refl
never true false false v = refl
never false true true v = refl
never false true false v = refl
never false false r v = refl

adds_out : (f g : Bool) (s : Side) (h : ℕ) (o : Option Block) → has_hour h o ≡ false → adds_of f s h o ≡ adds_of g s h o
adds_out f g s h None out = refl
adds_out f g s h (Some b) out =
    ap (λ r. cond (f && (same_side s b.side && r)) b.volume 0) out ∙ never f g (same_side s b.side) b.volume ∙ ap (λ r. cond (g && (same_side s b.side && r)) b.volume 0) (sym out)

module _ (bs : List (Option Block)) (fs : List Bool) (i : ℕ) (v : Bool) (h : ℕ) (out : has_hour h (get_or bs i None) ≡ false) where
  adds_same : (s : Side) (k : ℕ) → adds bs (set fs i v) s h k ≡ adds bs fs s h k
  adds_same s k = elim (cases_eq k i) [
    | inl e ↦ adds_out (get_or (set fs i v) k false) (get_or fs k false) s h (get_or bs k None) (ap (λ j. has_hour h (get_or bs j None)) e ∙ out)
    | inr d ↦ ap (λ f. adds_of f s h (get_or bs k None)) (get_or-set_other fs i k v false d)
  ]

  load_same : (s : Side) → load_of bs (set fs i v) s h ≡ load_of bs fs s h
  load_same s = ap (λ f. upto f (length bs)) (fun_ext (adds_same s))

  pub hour_same : (ps : List Place) (refs : List ℕ) → result_of ps bs refs (set fs i v) h ≡ result_of ps bs refs fs h
  unfolding result_of
  hour_same ps refs =
      ap (λ l. with_loads ps (h + 1) l (load_of bs (set fs i v) Sell h) (get_or refs h 0)) (load_same Buy) ∙ ap (λ l. with_loads ps (h + 1) (load_of bs fs Buy h) l (get_or refs h 0)) (load_same Sell)
