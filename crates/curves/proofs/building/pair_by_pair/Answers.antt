use Rattle.std.proofs.Common.{◌≡◌, ℕ, ◌+◌, length, Err, sym, ap, ◌∙◌, arith, length-drop}
use Rattle.std.specs.Slice.Iter.{windows_rest}
use Rattle.std.specs.Iterator.Adapters.{enumerate_source, enumerate_count}
use Rattle.std.proofs.lemmas.Bool.{cond-true, cond-false, le-leb, lt-leb}
use Rattle.curves.specs.Sequences.{paired}
use Rattle.curves.specs.Views.{points}
use Rattle.curves.proofs.Walked.{neighbours}
use Rattle.curves.proofs.Paired.{paired_turn, paired_over}
use Rattle.curves.proofs.building.pair_by_pair.Goals as goal

pub returns-then-q-p : goal.returns-then-q-p
returns-then-q-p c =
    let s = c.in-Some.ensures.steps in
    let two = neighbours _ _ _ _ c.index-w-0.result c.index-w-1.result c.loop-i.invariant.0 s.0.1 c.index-w-0.is c.index-w-1.is in
    let turn = paired_turn c.args.side (c.in-Some.i + 2) _ _ _ _ two in
    let here = ap (λ (n : ℕ). paired c.args.side (n + 2) (points (windows_rest (enumerate_source c.loop-i.i-iterator)))) s.1 ∙ c.loop-i.invariant.2 in
    ap Err c.without_text.ensures ∙ (sym (turn ∙ cond-true _ _ _ (le-leb _ _ c.if-q-p.true)) ∙ here)

pub returns-then-not-stays : goal.returns-then-not-stays
returns-then-not-stays c =
    let s = c.in-Some.ensures.steps in
    let two = neighbours _ _ _ _ c.index-w-0.result c.index-w-1.result c.loop-i.invariant.0 s.0.1 c.index-w-0.is c.index-w-1.is in
    let turn = paired_turn c.args.side (c.in-Some.i + 2) _ _ _ _ two in
    let here = ap (λ (n : ℕ). paired c.args.side (n + 2) (points (windows_rest (enumerate_source c.loop-i.i-iterator)))) s.1 ∙ c.loop-i.invariant.2 in
    ap Err c.without_text-then-not-stays.ensures
    ∙ (sym (turn ∙ (cond-false _ _ _ (lt-leb _ _ c.if-q-p.false) ∙ cond-false _ _ _ (sym c.stays.ensures ∙ c.if-not-stays.true))) ∙ here)

pub loop-i-preserved : goal.loop-i-preserved
loop-i-preserved c =
    let s = c.in-Some.ensures.steps in
    let two = neighbours _ _ _ _ c.index-w-0.result c.index-w-1.result c.loop-i.invariant.0 s.0.1 c.index-w-0.is c.index-w-1.is in
    let turn = paired_turn c.args.side (c.in-Some.i + 2) _ _ _ _ two in
    let left = windows_rest (enumerate_source c.loop-i.i-iterator) in
    let here = ap (λ (n : ℕ). paired c.args.side (n + 2) (points left)) s.1 ∙ c.loop-i.invariant.2 in
    let next : enumerate_count c.next.new.self + 2 ≡ c.in-Some.i + 2 + 1 = omega (arith, s.1, s.2) in (
      s.0.0 ∙ c.loop-i.invariant.0,
      omega (arith, s.2, ap length s.0.1.2, length-drop 1 left, s.0.1.0, c.loop-i.invariant.0, c.loop-i.invariant.1),
      ap (λ (n : ℕ). paired c.args.side n (points (windows_rest (enumerate_source c.next.new.self)))) next
          ∙ (sym (turn ∙ (cond-false _ _ _ (lt-leb _ _ c.if-q-p.false) ∙ cond-true _ _ _ (sym c.stays.ensures ∙ c.if-not-stays.false))) ∙ here),
    )

pub returns : goal.returns
returns c =
    let s = c.in-None.ensures.steps in
    sym (paired_over c.args.side _ _ (omega (arith, s.0.1.0, c.loop-i.invariant.0))) ∙ c.loop-i.invariant.2
