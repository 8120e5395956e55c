use Rattle.std.proofs.Common.{ℕ, ◌+◌, get_or, None, Option, sym, ap, ◌∙◌, arith, rules}
use Rattle.std.proofs.lemmas.List.{get_or_default}
use Rattle.allocation.specs.declared.limit.LimitClaim.{LimitClaim}
use Rattle.book.specs.Views.{place_of, places}
use Rattle.clearing.specs.Clearing.{tabled}
use Rattle.clearing.specs.Claims.{limit_of}
use Rattle.clearing.proofs.Tabled.{filled_none, filled_more, filled_all, map_by_place, map_twice}
use Rattle.clearing.proofs.sharing.Tables.limit_claims.Goals as goal

pub loop-i-init : goal.loop-i-init
loop-i-init c = filled_none 256 _ _ (search rules)

pub loop-i-preserved : goal.loop-i-preserved
loop-i-preserved c =
    let day = c.args.self.now in
    let f : ℕ → Option LimitClaim = λ k. limit_of (day.hour.index + 1) c.args.side day.price.value (place_of (get_or day.rows.now k None)) in
    filled_more 256 f c.loop-i.claims c.loop-i.i _ (omega arith) (search (rules, get_or_default)) c.loop-i.invariant

pub returns : goal.returns
unfolding places
returns c =
    let day = c.args.self.now in
    filled_all 256 _ _ c.loop-i.i (omega arith) c.loop-i.invariant
    ∙ ap (tabled (λ k. limit_of (day.hour.index + 1) c.args.side day.price.value (place_of (get_or day.rows.now k None)))) (sym day.whole) ∙ sym (map_by_place (λ r. limit_of (day.hour.index + 1) c.args.side day.price.value (place_of r)) None None day.rows.now) ∙ map_twice (limit_of (day.hour.index + 1) c.args.side day.price.value) place_of day.rows.now
