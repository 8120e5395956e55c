use Rattle.std.proofs.Common.{get_or, None}
use Rattle.clearing.specs.declared.marks.Mark.TheVariants.{Kept}
use Rattle.clearing.specs.Claims.{is_kept, block_claim}
use Rattle.clearing.proofs.Tabled.{Filled}
use Rattle.clearing.proofs.sharing.Tables.block_claims.Given as goal

abbrev pub invariant-loop-i : goal.invariant-loop-i
invariant-loop-i l = Filled 256 (λ k. block_claim (is_kept (get_or l.self.marks.now k Kept)) l.side l.self.hour.index (get_or l.blocks k None)) l.claims l.i
