use Rattle.std.proofs.Common.{◌≡◌, false, ◌&&◌, ltb, sym, ◌∙◌, inl, inr, arith}
use Rattle.std.proofs.lemmas.Bool.{cond-true, cond-false, and_from, and_left, and_right, lt-ltb, le-ltb}
use Rattle.curves.proofs.Walked.{neighbours, inside_turn, inside_over}
use Rattle.curves.proofs.walks.inside.Goals as goal

pub returns-then-tick-q : goal.returns-then-tick-q
returns-then-tick-q c = λ v.
    let p = c.index-w-0.result in
    let q = c.index-w-1.result in
    let t = c.args.tick in
    let turn = inside_turn _ _ p q t v (neighbours _ _ _ _ p q c.loop-w.invariant.0 c.in-Some.ensures.steps.1 c.index-w-0.is c.index-w-1.is) in
    c.between.ensures
    ∙ (sym (turn ∙ cond-true _ _ _ (and_from _ _ (lt-ltb p.tick t c.if-p-tick.true) (lt-ltb t q.tick c.if-tick-q.true))) ∙ c.loop-w.invariant.1 v)

pub loop-w-preserved : goal.loop-w-preserved
loop-w-preserved c =
    let p = c.index-w-0.result in
    let q = c.index-w-1.result in
    let t = c.args.tick in
    let two = neighbours _ _ _ _ p q c.loop-w.invariant.0 c.in-Some.ensures.steps.1 c.index-w-0.is c.index-w-1.is in
    let out : (ltb p.tick t && ltb t q.tick) ≡ false = elim c.else-p-tick.either [
      | inl w ↦ and_right (ltb p.tick t) _ (le-ltb t q.tick w.1)
      | inr w ↦ and_left _ (ltb t q.tick) (le-ltb p.tick t w)
    ] in
    (c.in-Some.ensures.steps.0 ∙ c.loop-w.invariant.0, λ v. sym (inside_turn _ _ p q t v two ∙ cond-false _ _ _ out) ∙ c.loop-w.invariant.1 v)

pub returns : goal.returns
returns c = λ v. sym (inside_over _ c.args.tick v (omega (arith, c.in-None.ensures.steps.1.0, c.loop-w.invariant.0))) ∙ c.loop-w.invariant.1 v
