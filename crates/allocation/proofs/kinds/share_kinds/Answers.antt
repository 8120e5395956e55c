use Rattle.std.proofs.Common.{rules, ◌-◌, sum_by, ◌∙◌, ap}
use Rattle.allocation.specs.Shares.{shares_of}
use Rattle.allocation.proofs.Joining.{kinds_shared}
use Rattle.allocation.proofs.kinds.share_kinds.Goals as goal

pub returns : goal.returns
returns g c =
    let s = g.S.Claim in
    let t = g.T.Claim in
    let one = c.left_after-after_first.ensures in
    let two = c.left_after-after_second.ensures ∙ ap (λ v. v - sum_by s.asks c.args.second.now) one in
    record {
      answer = search rules;
      outcome = kinds_shared _ _ _ _ _ _ _ g.met.F.Claim.ranked g.met.S.Claim.ranked g.met.T.Claim.ranked _ _ _ record {
        first = c.serve.ensures.each;
        second = c.serve-2.ensures.each ∙ ap (λ v. shares_of s.asks s.before v c.args.second.now) one;
        third = c.serve-3.ensures.each ∙ ap (λ v. shares_of t.asks t.before v c.args.third.now) two;
      };
    }
