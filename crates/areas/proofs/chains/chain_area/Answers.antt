use Rattle.std.proofs.Common.{rules, ◌≡◌, ◌+◌, ◌-◌, ◌≤◌, ℕ, take, get_or, ap, arith}
use Rattle.areas.specs.Area.{area_of}
use Rattle.areas.specs.Runs.{run_shows, row_sum}
use Rattle.areas.proofs.Piecewise.{chain_whole, row_few, area_fits, end_at}
use Rattle.areas.proofs.chains.chain_area.Goals as goal
use Rattle.areas.proofs.chains.chain_area.Goals.{in-Buy, in-Sell}
use Rattle.curves.specs.Chained.{chain_of}

pub pieces-requires : goal.pieces-requires
pieces-requires g c =
    let chain = c.args.chain.now in
    let way = g.R.Run.way in
    let price : ℕ = c.args.price.value in
    omega (arith, ap (λ ps. row_sum chain.side way ps price) c.pairs.ensures, row_few chain.side way (take chain.count chain.pairs) price c.args.price.high chain.lined)

-- the pair at the end is the chain's
at : (g : _) (c : goal.After-flat g) → c.match-chain.end ≡ get_or c.args.chain.now.pairs (end_at c.args.chain.now.side c.args.chain.now.count) c.match-chain.end
at g c =
    let n : ℕ = c.args.chain.now.count in
    elim c.match-chain.branch [
      | in-Buy w ↦ let i : end_at c.args.chain.now.side n ≡ 0 = ap (λ s. end_at s n) w.in-Buy.is in cc
      | in-Sell w ↦ let i : end_at c.args.chain.now.side n ≡ n - 1 = ap (λ s. end_at s n) w.in-Sell.is in cc
    ]

is : (g : _) (c : goal.After-flat g) → c.pieces.result + c.flat.result ≡ area_of c.args.chain.now.side (run_shows g.R.Run.way c.args.chain.now.side (chain_of c.args.chain.now)) c.args.price.value
is g c =
    let chain = c.args.chain.now in
    let way = g.R.Run.way in
    let price : ℕ = c.args.price.value in
    omega (arith, c.pieces.ensures, c.flat.ensures.is, ap (λ ps. row_sum chain.side way ps price) c.pairs.ensures, chain_whole way chain price c.match-chain.end (search rules) (at g c))

fits : (g : _) (c : goal.After-flat g) → c.pieces.result + c.flat.result ≤ 30000000000
fits g c = omega (arith, is g c, area_fits g.R.Run.way c.args.chain.now.side (take c.args.chain.now.count c.args.chain.now.pairs) c.args.price.value c.args.price.high c.args.chain.now.lined)

pub overflow_add-result : goal.overflow_add-result
overflow_add-result g c = omega (arith, fits g c)

pub returns-clause-is : goal.returns-clause-is
returns-clause-is g c = is g c

pub returns-clause-fits : goal.returns-clause-fits
returns-clause-fits g c = fits g c
