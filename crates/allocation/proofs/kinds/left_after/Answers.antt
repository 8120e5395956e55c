use Rattle.std.proofs.Common.{rules, ◌≡◌, ◌-◌, fold, ◌∙◌}
use Rattle.std.proofs.iter.runs.Made.{chains}
use Rattle.allocation.proofs.Summing.{left_all}
use Rattle.allocation.proofs.kinds.left_after.Goals as goal

pub returns : goal.returns
returns g c =
    let f = g.C.Claim.asks in
    let all : c.fold.result ≡ fold (λ left x. left - f x) c.args.volume c.args.claims.now = search (rules, chains) in
    all ∙ left_all f c.args.volume c.args.claims.now
