use Rattle.std.proofs.Common.{◌≡◌, length, sym, ◌∙◌, rules}
use Rattle.std.proofs.lemmas.Result.{err_from_is_err_and}
use Rattle.book.specs.Views.{ticket_of, places}
use Rattle.dayfile.proofs.Rules.{in_line, own_line, own_granted, table_line, table_done}
use Rattle.dayfile.proofs.orders.enter_order.Goals as goal

pub returns-in_err-ticket-clause-rule : goal.returns-in_err-ticket-clause-rule
returns-in_err-ticket-clause-rule c =
    let told : c.map_err.result ≡ in_line c.args.line c.admit.result = search rules in
    let p = err_from_is_err_and c.from_residual.result c.from_residual.ensures.1 in
    rw (p.1, p.2) (own_line c.args.blocks (places c.args.rows.now) c.args.given c.args.draft.now c.requires.few c.args.line c.admit.result c.in_err-ticket.field-0.0 c.admit.ensures (sym told ∙ c.in_err-ticket.was))

pub returns-in_err-map_err-clause-rule : goal.returns-in_err-map_err-clause-rule
returns-in_err-map_err-clause-rule c =
    let rows = c.args.rows.now in
    let t = c.in_ok-ticket.ticket in
    let own : c.map_err.result ≡ in_line c.args.line c.admit.result = search rules in
    let told : c.map_err-2.result ≡ in_line c.args.line c.enter.result = search rules in
    let yes = own_granted c.args.blocks (places rows) c.args.given c.args.draft.now c.requires.few c.args.line c.admit.result t c.admit.ensures (sym own ∙ c.in_ok-ticket.was) in
    let p = err_from_is_err_and c.from_residual-in_err-map_err.result c.from_residual-in_err-map_err.ensures.1 in
    rw (p.1, p.2) (table_line c.args.blocks (places rows) c.args.given c.args.draft.now c.requires.few (ticket_of t) yes (length rows) c.requires.whole c.args.line c.enter.result c.in_err-map_err.field-0.0 c.enter.ensures.gives (sym told ∙ c.in_err-map_err.was))

pub returns : goal.returns
returns c =
    let rows = c.args.rows.now in
    let t = c.in_ok-ticket.ticket in
    let own : c.map_err.result ≡ in_line c.args.line c.admit.result = search rules in
    let told : c.map_err-2.result ≡ in_line c.args.line c.enter.result = search rules in
    let yes = own_granted c.args.blocks (places rows) c.args.given c.args.draft.now c.requires.few c.args.line c.admit.result t c.admit.ensures (sym own ∙ c.in_ok-ticket.was) in
    let done = table_done c.args.blocks (places rows) c.args.given c.args.draft.now c.requires.few (ticket_of t) yes (length rows) c.requires.whole c.args.line c.enter.result c.in_ok-map_err.field-0 (places c.enter.new.rows) c.enter.ensures.gives c.enter.ensures.leaves (sym told ∙ c.in_ok-map_err.was) in
    record { rule = done.0; leaves = done.1 }
