use Rattle.std.proofs.Common.{get_or, sym, ◌∙◌, arith}
use Rattle.std.proofs.lemmas.List.{get_or-map}
use Rattle.curves.specs.declared.ticks.Tick.{Tick}
use Rattle.clearing.specs.Clearing.{ticks}
use Rattle.clearing.proofs.pricing.reference_at.Goals as goal

pub returns : goal.returns
unfolding ticks
returns c =
    let refs = c.args.references.now in
    let tick : Tick = get_or refs c.args.hour.index c.index-references-hour.result in
    record {
      is = c.get.ensures ∙ sym (get_or-map (λ (t : Tick). t.value) refs c.args.hour.index c.index-references-hour.result 0 (omega arith));
      low = omega (arith, c.get.ensures, tick.low);
      high = omega (arith, c.get.ensures, tick.high);
    }
