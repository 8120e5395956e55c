use Rattle.std.proofs.Common.{◌≡◌, ◌<◌, length, take, Err, sym, refl, ap, ◌∙◌, arith, rules, length-set}
use Rattle.std.proofs.lemmas.List.{take_all}
use Rattle.curves.specs.Views.{points, quotes}
use Rattle.curves.proofs.Paired.{wild_here, wild_end, tame_here, points_more, no_points}
use Rattle.curves.proofs.building.in_range.Goals as goal

pub returns-in_err-pairs : goal.returns-in_err-pairs
returns-in_err-pairs c =
    let w = wild_here c.args.asked.now 0 c.in_err-pairs.field-0.0 c.requires.some c.in_err-pairs.ensures in
    let e : c.from_residual.result ≡ Err c.in_err-pairs.field-0.0 = search rules in
    rw (e, w.0, w.1)

pub loop-i-init : goal.loop-i-init
loop-i-init c = (refl, no_points, refl)

pub returns-in_err-pairs-2 : goal.returns-in_err-pairs-2
returns-in_err-pairs-2 c =
    let w = wild_here c.args.asked.now c.loop-i.i c.in_err-pairs-2.field-0.0 c.loop-i-test.true c.in_err-pairs-2.ensures in
    let e : c.from_residual-in_err-pairs-2.result ≡ Err c.in_err-pairs-2.field-0.0 = search rules in
    let all = sym c.loop-i.invariant.2 ∙ w.0 in
    rw (e, all, w.1)

pub loop-i-preserved : goal.loop-i-preserved
loop-i-preserved c =
    let room : c.loop-i.i < length c.loop-i.pairs = omega (arith, c.loop-i.invariant.0) in
    let t = tame_here c.args.asked.now c.loop-i.i c.in_ok-pairs-2.field-0 c.loop-i-test.true c.in_ok-pairs-2.ensures in (
      length-set _ _ _ ∙ c.loop-i.invariant.0,
      points_more c.loop-i.pairs c.args.asked.now c.loop-i.i c.in_ok-pairs-2.field-0 room c.loop-i-test.true t.1 c.loop-i.invariant.1,
      sym t.0 ∙ c.loop-i.invariant.2,
    )

pub returns : goal.returns
returns c =
    let i = c.loop-i.i in
    let tame = sym c.loop-i.invariant.2 ∙ wild_end c.args.asked.now i c.loop-i-test.false in
    let e : length c.args.asked.now ≡ i = omega arith in
    let same = ap (λ n. points (take n c.loop-i.pairs)) e ∙ (c.loop-i.invariant.1 ∙ ap quotes (take_all i c.args.asked.now c.loop-i-test.false)) in
    rw (tame, same)
