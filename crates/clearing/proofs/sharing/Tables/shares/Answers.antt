use Rattle.std.proofs.Common.{◌≡◌, ℕ, List, map, length, get_or, None, Option, ap, ◌∙◌, arith}
use Rattle.allocation.specs.declared.block.BlockClaim.{BlockClaim}
use Rattle.allocation.specs.declared.market.MarketClaim.{MarketClaim}
use Rattle.allocation.specs.declared.limit.LimitClaim.{LimitClaim}
use Rattle.book.specs.Views.{places, sets_of}
use Rattle.clearing.specs.declared.blocks.Block.{Block}
use Rattle.clearing.specs.declared.marks.Mark.TheVariants.{Kept}
use Rattle.clearing.specs.Blocks.{blocks_of}
use Rattle.clearing.specs.Clearing.{tabled}
use Rattle.clearing.specs.Claims.{is_kept, block_claim, row_claims}
use Rattle.clearing.specs.Sharing.{served_in_turn}
use Rattle.clearing.proofs.Cleared.{places_length}
use Rattle.clearing.proofs.Joined.{first_of, second_of, third_of}
use Rattle.clearing.proofs.Shares.{first_is, second_is, third_is, turn_is_rule}
use Rattle.clearing.proofs.sharing.Tables.shares.Goals as goal

pub returns : goal.returns
returns c =
    let day = c.args.self.now in
    let ps = places day.rows.now in
    let sets = sets_of day.products.now in
    let ms = day.marks.now in
    let h : ℕ = day.hour.index in
    let t : ℕ = day.price.value in
    let side = c.args.side in
    let volume = c.args.volume in
    let cs = row_claims ps sets ms h t side in
    let n : 256 ≡ length ps = omega (arith, places_length day.rows.now, day.whole) in
    let claimed : List (Option Block) → ℕ → List (Option BlockClaim) = λ bs m. tabled (λ k. block_claim (is_kept (get_or ms k Kept)) side h (get_or bs k None)) m in
    let xs : c.block_claims.new.claims ≡ map first_of cs = c.block_claims.ensures ∙ ap (λ bs. claimed bs 256) c.collect.ensures.is ∙ ap (λ m. claimed (blocks_of sets ps) m) n ∙ first_is ps sets ms h t side day.hour.within in
    let ys : c.market_claims.new.claims ≡ map second_of cs = c.market_claims.ensures ∙ second_is ps sets ms h t side day.hour.within in
    let zs : c.limit_claims.new.claims ≡ map third_of cs = c.limit_claims.ensures ∙ third_is ps sets ms h t side day.hour.within in
    c.serve_kinds.ensures
    ∙ ap (λ (x : List (Option BlockClaim)). served_in_turn volume x c.market_claims.new.claims c.limit_claims.new.claims 256) xs
    ∙ ap (λ (y : List (Option MarketClaim)). served_in_turn volume (map first_of cs) y c.limit_claims.new.claims 256) ys
    ∙ ap (λ (z : List (Option LimitClaim)). served_in_turn volume (map first_of cs) (map second_of cs) z 256) zs
    ∙ ap (served_in_turn volume (map first_of cs) (map second_of cs) (map third_of cs)) n
    ∙ turn_is_rule ps sets ms h t side day.hour.within volume
