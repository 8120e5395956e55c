use Rattle.std.proofs.Common.{ℕ, get_or, None, Option, arith, rules}
use Rattle.allocation.specs.declared.block.BlockClaim.{BlockClaim}
use Rattle.clearing.specs.declared.marks.Mark.TheVariants.{Kept}
use Rattle.clearing.specs.Claims.{is_kept, block_claim}
use Rattle.clearing.proofs.Tabled.{filled_none, filled_more, filled_all}
use Rattle.clearing.proofs.sharing.Tables.block_claims.Goals as goal

pub loop-i-init : goal.loop-i-init
loop-i-init c = filled_none 256 _ _ (search rules)

pub loop-i-preserved : goal.loop-i-preserved
loop-i-preserved c =
    let day = c.args.self.now in
    let f : ℕ → Option BlockClaim = λ k. block_claim (is_kept (get_or day.marks.now k Kept)) c.args.side day.hour.index (get_or c.args.blocks.now k None) in
    filled_more 256 f c.loop-i.claims c.loop-i.i _ (omega arith) (search rules) c.loop-i.invariant

pub returns : goal.returns
returns c = filled_all 256 _ _ c.loop-i.i (omega arith) c.loop-i.invariant
