-- The plain order behind each order of the code, and what asking for one is answered.
use Rattle.std.specs.Prelude.{ℕ, cond, List, Ok, Err, Result}
use Rattle.faults.specs.declared.fault.Fault.{Fault}
use Rattle.faults.specs.Answers.{granting, out_of_range}
use Rattle.curves.specs.declared.sides.Side.{Side}
use Rattle.curves.specs.declared.markets.Market.{Market as MarketOrder}
use Rattle.curves.specs.declared.steps.Step.{Step as StepOrder}
use Rattle.curves.specs.declared.lines.Linear.{Linear as LinearOrder}
use Rattle.curves.specs.declared.orders.Order.{Order}
use Rattle.curves.specs.declared.orders.Order.TheVariants.{Market, Step, Linear}
use Rattle.curves.specs.Points.{Point}
use Rattle.curves.specs.Ranges.{bad_volume}
use Rattle.curves.specs.Sequences.{pairs_verdict}
use Rattle.curves.specs.Chained.{chain_of}
use Rattle.curves.specs.Offers.{Form, flat, stairs, slopes, Offer, offer}

abbrev pub market_of : MarketOrder → Offer
market_of m = offer m.side (flat m.volume)

abbrev pub step_of : StepOrder → Offer
step_of s = offer s.chain.side (stairs (chain_of s.chain))

abbrev pub linear_of : LinearOrder → Offer
linear_of l = offer l.chain.side (slopes (chain_of l.chain))

abbrev pub offer_of : Order → Offer
offer_of (Market m) = market_of m
offer_of (Step s) = step_of s
offer_of (Linear l) = linear_of l

-- a market order of a volume
abbrev pub market_asked : Side → ℕ → Result Offer Fault
market_asked side v = cond (bad_volume v) (Err out_of_range) (Ok (offer side (flat v)))

-- an order of these pairs in the given form
abbrev pub pairs_asked : (List Point → Form) → Side → List Point → Result Offer Fault
pairs_asked form side ps = granting (pairs_verdict side ps) (offer side (form ps))
