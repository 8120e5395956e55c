use Rattle.std.proofs.Common.{max, get_or, rules}
use Rattle.clearing.proofs.Tabled.{made_by}
use Rattle.clearing.proofs.sharing.larger.Goals as goal

pub returns : goal.returns
returns c =
    made_by _ _ (λ k. max (get_or c.args.xs.now k 0) (get_or c.args.ys.now k 0)) 256 0 (λ k y q l called. search rules) _ c.from_fn.ensures.items
