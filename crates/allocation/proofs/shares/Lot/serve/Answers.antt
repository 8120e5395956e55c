use Rattle.std.proofs.lemmas.List.{length-set}
use Rattle.allocation.specs.Shares.{share_of, shares_of}
use Rattle.allocation.proofs.Summing.{mapped_more, mapped_all}
use Rattle.allocation.proofs.Sharing.{shared}
use Rattle.allocation.proofs.shares.Lot.serve.Goals as goal

pub loop-i-preserved : goal.loop-i-preserved
loop-i-preserved g c =
    let k = g.C.Claim in
    let xs = c.args.self.claims.now in
    (simp length-set c.loop-i.invariant.0, mapped_more (share_of k.asks k.before c.args.volume xs) xs c.loop-i.shares c.loop-i.i c.index-claims-i.result c.share.result c.loop-i-test.true c.loop-i.invariant.0 c.index-claims-i.is c.share.ensures c.loop-i.invariant.1)

pub returns : goal.returns
unfolding shares_of
returns g c =
    let k = g.C.Claim in
    let xs = c.args.self.claims.now in
    shared k.asks k.stamp k.before g.met.C.Claim.ranked c.args.volume xs c.loop-i.shares (mapped_all (share_of k.asks k.before c.args.volume xs) xs c.loop-i.shares c.loop-i.i c.loop-i-test.false c.loop-i.invariant.0 c.loop-i.invariant.1)
