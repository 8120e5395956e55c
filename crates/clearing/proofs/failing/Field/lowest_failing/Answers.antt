use Rattle.std.proofs.Common.{◌≡◌, Some, None, sym, ap, ◌∙◌, arith, rules}
use Rattle.std.proofs.lemmas.Bool.{or_from}
use Rattle.clearing.specs.Upto.{any_upto}
use Rattle.clearing.specs.Verdicts.{short_in}
use Rattle.clearing.proofs.Uptos.{any_none, any_more, any_from}
use Rattle.clearing.proofs.Lowest.{lowest_none, lowest_more, not_standing, by_loss, by_shortage, by_none, at_empty, at_block}
use Rattle.clearing.specs.declared.marks.Cause.TheVariants.{Loss, Shortage}
use Rattle.clearing.proofs.failing.Field.lowest_failing.Goals as goal

pub block-init : goal.block-init
block-init c = search (rules, lowest_none)

pub block-preserved-in_default : goal.block-preserved-in_default
block-preserved-in_default c =
    let bs = c.args.self.now.blocks.now in
    let fs = c.args.self.now.standing.now in
    (lowest_more _ _ c.block.i c.block.lowest None c.block.invariant.0 (at_empty bs fs c.args.results.now c.block.i c.in_default.is), c.block.invariant.1)

pub block-preserved-then-not-self-i : goal.block-preserved-then-not-self-i
block-preserved-then-not-self-i c =
    let bs = c.args.self.now.blocks.now in
    let fs = c.args.self.now.standing.now in
    (lowest_more _ _ c.block.i c.block.lowest None c.block.invariant.0 (at_block bs fs c.args.results.now c.block.i c.in-Some.block None c.in-Some.is (not_standing _ _ _ c.if-not-self-i.true)), c.block.invariant.1)

pub block-preserved-then-loses : goal.block-preserved-then-loses
block-preserved-then-loses c =
    let bs = c.args.self.now.blocks.now in
    let fs = c.args.self.now.standing.now in (
      c.lower.ensures.is
          ∙ lowest_more _ _ c.block.i c.block.lowest (Some Loss) c.block.invariant.0 (at_block bs fs c.args.results.now c.block.i c.in-Some.block (Some Loss) c.in-Some.is (by_loss _ _ _ c.if-not-self-i.false (sym c.if-loses.ensures))),
      c.lower.ensures.within,
    )

pub loop-index-init : goal.loop-index-init
loop-index-init c = (c.block.invariant.0, c.block.invariant.1, any_none _)

pub block-preserved-then-short_in : goal.block-preserved-then-short_in
block-preserved-then-short_in c =
    let bs = c.args.self.now.blocks.now in
    let fs = c.args.self.now.standing.now in
    let b = c.in-Some.block in
    let p = short_in bs fs c.args.results.now b in (
      c.lower-then-short_in.ensures.is
          ∙ lowest_more _ _ c.block.i c.loop-index.lowest-1 (Some Shortage) c.loop-index.invariant.0 (at_block bs fs c.args.results.now c.block.i b (Some Shortage) c.in-Some.is (by_shortage _ _ _ c.if-not-self-i.false (sym c.if-loses.ensures) (any_from p 24 c.loop-index.index c.loop-index-test.true (sym c.if-short_in.ensures)))),
      c.lower-then-short_in.ensures.within,
    )

pub loop-index-preserved : goal.loop-index-preserved
loop-index-preserved c =
    let bs = c.args.self.now.blocks.now in
    let fs = c.args.self.now.standing.now in
    let p = short_in bs fs c.args.results.now c.in-Some.block in
    (c.loop-index.invariant.0, c.loop-index.invariant.1, any_more p c.loop-index.index ∙ or_from _ _ c.loop-index.invariant.2 (sym c.if-short_in.ensures))

pub block-preserved : goal.block-preserved
block-preserved c =
    let bs = c.args.self.now.blocks.now in
    let fs = c.args.self.now.standing.now in
    let b = c.in-Some.block in
    let p = short_in bs fs c.args.results.now b in
    let end : c.loop-index.index ≡ 24 = omega arith in
    (lowest_more _ _ c.block.i c.loop-index.lowest-1 None c.loop-index.invariant.0 (at_block bs fs c.args.results.now c.block.i b None c.in-Some.is (by_none _ _ _ (sym c.if-loses.ensures) (ap (any_upto p) (sym end) ∙ c.loop-index.invariant.2))), c.loop-index.invariant.1)
