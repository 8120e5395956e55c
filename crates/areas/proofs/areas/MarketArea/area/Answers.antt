use Rattle.std.proofs.Common.{◌∙◌, ◌*◌, ap, sym}
use Rattle.areas.specs.Area.{first_beyond}
use Rattle.areas.proofs.Sums.{sum_level}
use Rattle.areas.proofs.areas.MarketArea.area.Goals as goal

pub returns-clause-is : goal.returns-clause-is
returns-clause-is c =
    let m = c.args.self.now in
    c.showing.ensures.is ∙ ap (λ n. m.volume * n) c.beyond.ensures ∙ sym (sum_level m.volume _ (first_beyond m.side c.args.price.value))
