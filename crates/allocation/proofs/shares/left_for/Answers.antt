use Rattle.std.proofs.Common.{rules, ◌≡◌, ◌-◌, cond, fold, ◌∙◌}
use Rattle.std.proofs.iter.runs.Made.{chains}
use Rattle.allocation.proofs.Summing.{left_all}
use Rattle.allocation.proofs.shares.left_for.Goals as goal

pub returns : goal.returns
returns g c =
    let k = g.C.Claim in
    let all : c.fold.result ≡ fold (λ left y. left - cond (k.before y c.args.claim.now) (k.asks y) 0) c.args.volume c.args.claims.now = search (rules, chains) in
    all ∙ left_all (λ y. cond (k.before y c.args.claim.now) (k.asks y) 0) c.args.volume c.args.claims.now
