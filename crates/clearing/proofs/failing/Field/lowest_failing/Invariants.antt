use Rattle.std.proofs.Common.{◌≡◌, false, length}
use Rattle.clearing.specs.Upto.{any_upto}
use Rattle.clearing.specs.Verdicts.{verdict, short_in}
use Rattle.clearing.specs.Rounds.{lowest_upto, blocks_before, Within}
use Rattle.clearing.proofs.failing.Field.lowest_failing.Given as goal

abbrev pub invariant-block : goal.invariant-block
invariant-block l =
    (l.lowest ≡ lowest_upto (verdict l.self.blocks.now l.self.standing.now l.results) (blocks_before l.self.blocks.now) l.i) × Within l.lowest (length l.self.blocks.now)

abbrev pub invariant-loop-index : goal.invariant-loop-index
invariant-loop-index l =
    (l.lowest ≡ lowest_upto (verdict l.self.blocks.now l.self.standing.now l.results) (blocks_before l.self.blocks.now) l.i) × Within l.lowest (length l.self.blocks.now)
    × (any_upto (short_in l.self.blocks.now l.self.standing.now l.results l.block) l.index ≡ false)
