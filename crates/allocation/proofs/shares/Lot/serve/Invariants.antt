use Rattle.std.proofs.Common.{◌≡◌, map, length, take}
use Rattle.allocation.specs.Shares.{share_of}
use Rattle.allocation.proofs.shares.Lot.serve.Given as goal

abbrev pub invariant-loop-i : goal.invariant-loop-i
invariant-loop-i g l =
    let k = g.C.Claim in
    (length l.shares ≡ length l.claims) × (take l.i l.shares ≡ map (share_of k.asks k.before l.volume l.claims) (take l.i l.claims))
