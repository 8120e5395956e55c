use Rattle.std.proofs.Common.{ℕ, ◌+◌, Option, sym, ap, ◌∙◌}
use Rattle.std.specs.Option.{option_and_then, option_copied}
use Rattle.curves.specs.Orders.{offer_of}
use Rattle.curves.specs.declared.orders.Order.{Order}
use Rattle.book.specs.declared.entries.Entry.{Entry}
use Rattle.book.specs.Views.{entry_of}
use Rattle.allocation.specs.declared.limit.LimitClaim.{LimitClaim}
use Rattle.clearing.specs.Claims.{limit_bid}
use Rattle.clearing.proofs.Bids.{limit_in, some_limit}
use Rattle.clearing.proofs.claims.limit_claim.Goals as goal

-- the claim of the entry found
abbrev of : ℕ → Option Entry → Option LimitClaim
of t o = option_and_then (λ e. limit_bid (entry_of e) t (entry_of e).offer.form) o

pub returns-in_err-entry : goal.returns-in_err-entry
returns-in_err-entry c =
    let t = c.args.price.value in
    c.from_residual.ensures ∙ sym (limit_in (c.args.hour.index + 1) c.args.side t c.args.row.now ∙ ap (of t) (sym c.bid_in.ensures ∙ ap option_copied c.in_err-entry.was))

pub returns-in-Market : goal.returns-in-Market
returns-in-Market c =
    let t = c.args.price.value in
    let e = c.in_ok-entry.entry.now in
    sym (limit_in (c.args.hour.index + 1) c.args.side t c.args.row.now ∙ ap (of t) (sym c.bid_in.ensures ∙ ap option_copied c.in_ok-entry.was) ∙ ap (λ (o : Order). limit_bid (entry_of e) t (offer_of o).form) c.in-Market.is)

pub returns-in_default : goal.returns-in_default
returns-in_default c =
    let t = c.args.price.value in
    let e = c.in_ok-entry.entry.now in
    let is = limit_in (c.args.hour.index + 1) c.args.side t c.args.row.now ∙ ap (of t) (sym c.bid_in.ensures ∙ ap option_copied c.in_ok-entry.was) ∙ some_limit (entry_of e) t e.order c.in_default.not-Market in
    cc (is, c.area.ensures.is, c.volume_at.ensures)
