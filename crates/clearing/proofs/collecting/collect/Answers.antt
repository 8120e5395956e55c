use Rattle.std.proofs.Common.{◌≡◌, ℕ, get_or, None, Option, ap, ◌∙◌, sym, arith, rules}
use Rattle.std.proofs.lemmas.List.{get_or_default}
use Rattle.book.specs.Views.{place_of, places, sets_of}
use Rattle.clearing.specs.declared.blocks.Block.{Block}
use Rattle.clearing.specs.Blocks.{block_of, blocks_of, small_blocks}
use Rattle.clearing.specs.Clearing.{tabled}
use Rattle.clearing.proofs.Tabled.{filled_none, filled_more, filled_all, map_by_place, map_twice}
use Rattle.clearing.proofs.Collected.{blocks_small}
use Rattle.clearing.proofs.collecting.collect.Goals as goal

pub loop-i-init : goal.loop-i-init
loop-i-init c = filled_none 256 _ _ (search rules)

pub loop-i-preserved : goal.loop-i-preserved
loop-i-preserved c =
    let f : ℕ → Option Block = λ k. block_of (sets_of c.args.products.now) (place_of (get_or c.args.rows.now k None)) in
    filled_more 256 f c.loop-i.blocks c.loop-i.i _ (omega arith) (search (rules, get_or_default)) c.loop-i.invariant

pub returns : goal.returns
unfolding blocks_of places
returns c =
    let sets = sets_of c.args.products.now in
    let rows = c.args.rows.now in
    let is : c.loop-i.blocks ≡ blocks_of sets (places rows) = filled_all 256 _ _ c.loop-i.i (omega arith) c.loop-i.invariant
    ∙ ap (tabled (λ k. block_of sets (place_of (get_or rows k None)))) (sym c.requires) ∙ sym (map_by_place (λ r. block_of sets (place_of r)) None None rows) ∙ map_twice (block_of sets) place_of rows in
    record { is = is; small = ap small_blocks is ∙ blocks_small sets rows }
