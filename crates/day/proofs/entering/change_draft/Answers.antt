use Rattle.std.proofs.Common.{length, sym, ap, ◌∙◌}
use Rattle.book.specs.Drafted.{too_many, asked_of, draft_verdict}
use Rattle.book.specs.Entering.{change_answer}
use Rattle.book.specs.Views.{ticket_of, places}
use Rattle.calls.specs.Moves.{changing}
use Rattle.day.specs.Answers.{first}
use Rattle.day.specs.Views.{lent_to}
use Rattle.day.proofs.Drafting.{draft_granted}
use Rattle.day.proofs.entering.change_draft.Goals as goal

pub returns-clause-gives : goal.returns-clause-gives
unfolding draft_verdict
returns-clause-gives c =
    let n = length c.args.rows.now in
    let answer = change_answer (places c.args.rows.now) c.args.given in
    let asked = asked_of c.args.draft.now in
    let is = draft_granted (too_many c.args.draft.now.terms) c.args.blocks (changing asked) asked (ticket_of c.in_ok-ticket.ticket) c.in_ok-ticket.ensures in
    c.change.ensures.gives ∙ ap (λ a. lent_to n (answer a)) is.1 ∙ sym (ap (λ j. lent_to n (first j (answer asked))) is.0)
