use Rattle.std.proofs.Common.{◌+◌, Option, sym, ap, ◌∙◌}
use Rattle.std.specs.Option.{option_and_then, option_copied}
use Rattle.curves.specs.Orders.{offer_of}
use Rattle.curves.specs.declared.orders.Order.{Order}
use Rattle.book.specs.declared.entries.Entry.{Entry}
use Rattle.book.specs.Views.{entry_of}
use Rattle.allocation.specs.declared.market.MarketClaim.{MarketClaim}
use Rattle.clearing.specs.Claims.{market_bid}
use Rattle.clearing.proofs.Bids.{market_in, no_market}
use Rattle.clearing.proofs.claims.market_claim.Goals as goal

-- the claim of the entry found
abbrev of : Option Entry → Option MarketClaim
of o = option_and_then (λ e. market_bid (entry_of e) (entry_of e).offer.form) o

pub returns-in_err-entry : goal.returns-in_err-entry
returns-in_err-entry c =
    c.from_residual.ensures ∙ sym (market_in (c.args.hour.index + 1) c.args.side c.args.row.now ∙ ap of (sym c.bid_in.ensures ∙ ap option_copied c.in_err-entry.was))

pub returns-in-Market : goal.returns-in-Market
returns-in-Market c =
    let e = c.in_ok-entry.entry.now in
    let is = market_in (c.args.hour.index + 1) c.args.side c.args.row.now ∙ ap of (sym c.bid_in.ensures ∙ ap option_copied c.in_ok-entry.was) ∙ ap (λ (o : Order). market_bid (entry_of e) (offer_of o).form) c.in-Market.is in
    cc (is, c.from.ensures)

pub returns-in_default : goal.returns-in_default
returns-in_default c =
    let e = c.in_ok-entry.entry.now in
    sym (market_in (c.args.hour.index + 1) c.args.side c.args.row.now ∙ ap of (sym c.bid_in.ensures ∙ ap option_copied c.in_ok-entry.was) ∙ no_market (entry_of e) e.order c.in_default.not-Market)
