use Rattle.std.proofs.Common.{ℕ, ◌+◌, arith, Bool, true, List, set, sym, ◌∙◌, subst}
use Rattle.book.specs.Views.{places}
use Rattle.clearing.specs.declared.results.HourResult.{HourResult}
use Rattle.clearing.specs.Results.{no_result}
use Rattle.clearing.specs.Clearing.{ticks, result_of}
use Rattle.clearing.proofs.Tabled.{Mixed, mixed_none, mixed_put, mixed_all}
use Rattle.clearing.proofs.Read.{read_at}
use Rattle.clearing.proofs.Keeping.{hour_same}
use Rattle.clearing.proofs.pricing.DayPricer.reprice.Goals as goal
use Rattle.clearing.proofs.pricing.DayPricer.reprice.Goals.{then-touches, else-touches}

pub loop-index-init : goal.loop-index-init
loop-index-init c = mixed_none 24 _ _ no_result _ c.requires.before

pub loop-index-preserved : goal.loop-index-preserved
loop-index-preserved c =
    let day = c.args.self.now in
    let at : List Bool → ℕ → HourResult = result_of (places day.rows.now) day.blocks.now (ticks day.references.now) in
    let fs = c.args.standing.now in
    let new : ℕ → HourResult = at fs in
    let old : ℕ → HourResult = at (set fs c.args.dropped true) in
    let h = c.loop-index.index in
    elim c.if-touches.branch [
      | then-touches w ↦ subst (λ (rs : List HourResult). Mixed 24 new old no_result rs (h + 1)) (sym w.results-is) (mixed_put 24 new old no_result c.loop-index.results h w.hour.result (omega arith) w.hour.ensures c.loop-index.invariant)
      | else-touches w ↦
          let kept = read_at c.loop-index.results h (omega (arith, c.loop-index.invariant.0)) ∙ c.loop-index.invariant.2 h (omega arith) (omega arith)
          ∙ hour_same day.blocks.now fs c.args.dropped true h (sym c.touches.ensures ∙ w.if-touches.false) (places day.rows.now) (ticks day.references.now) in
          subst (λ (rs : List HourResult). Mixed 24 new old no_result rs (h + 1)) (sym w.results-is) (mixed_put 24 new old no_result c.loop-index.results h _ (omega arith) kept c.loop-index.invariant)
    ]

pub returns : goal.returns
returns c = mixed_all 24 _ _ no_result _ c.loop-index.index (omega arith) c.loop-index.invariant
