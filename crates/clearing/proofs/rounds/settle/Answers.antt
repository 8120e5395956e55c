use Rattle.std.proofs.Common.{◌≡◌, true, false, set, sym, ap, ◌∙◌, arith}
use Rattle.std.proofs.lemmas.List.{set-set, set-get_or}
use Rattle.clearing.proofs.Settling.{found, fewer, drop_stands, running_more, running_done}
use Rattle.clearing.proofs.rounds.settle.Goals as goal

pub reprice-requires-clause-before : goal.reprice-requires-clause-before
reprice-requires-clause-before g c =
    let priced = g.P.Pricer.priced c.args.pricer.now in
    let fs = c.loop-i.standing in
    let i = c.in-Some.i in
    let some = found c.args.blocks.now priced fs c.loop-i.results _ c.loop-i.invariant.1 c.lowest_failing.ensures.is ∙ c.in-Some.is in
    let stood = (drop_stands c.args.blocks.now priced fs (i, c.in-Some.cause) some).1 in
    let back : fs ≡ set (set fs i false) i true = sym (set-set fs i false true ∙ ap (λ v. set fs i v) (sym stood) ∙ set-get_or fs i false) in
    c.loop-i.invariant.1 ∙ ap priced back

pub loop-i-smaller : goal.loop-i-smaller
loop-i-smaller g c =
    let priced = g.P.Pricer.priced c.args.pricer.now in
    let some = found c.args.blocks.now priced c.loop-i.standing c.loop-i.results _ c.loop-i.invariant.1 c.lowest_failing.ensures.is ∙ c.in-Some.is in
    omega (arith, fewer c.args.blocks.now priced c.loop-i.standing c.in-Some.i c.in-Some.cause c.loop-i.invariant.0.0 some)

pub loop-i-preserved : goal.loop-i-preserved
loop-i-preserved g c =
    let priced = g.P.Pricer.priced c.args.pricer.now in
    let some = found c.args.blocks.now priced c.loop-i.standing c.loop-i.results _ c.loop-i.invariant.1 c.lowest_failing.ensures.is ∙ c.in-Some.is in
    (running_more c.args.blocks.now priced c.loop-i.round c.loop-i.standing c.loop-i.marks c.in-Some.i c.in-Some.cause c.loop-i.invariant.0 some, c.reprice.ensures)

pub returns-clause-rounds : goal.returns-clause-rounds
returns-clause-rounds g c =
    let priced = g.P.Pricer.priced c.args.pricer.now in
    let none = found c.args.blocks.now priced c.loop-i.standing c.loop-i.results _ c.loop-i.invariant.1 c.lowest_failing.ensures.is ∙ c.in_default.is in
    running_done c.args.blocks.now priced c.loop-i.round c.loop-i.standing c.loop-i.marks c.loop-i.invariant.0 none
