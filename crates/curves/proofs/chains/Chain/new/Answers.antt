use Rattle.std.proofs.Common.{◌≡◌, Err, sym, ap, ◌∙◌, rules}
use Rattle.curves.specs.Sequences.{paired}
use Rattle.curves.proofs.Paired.{tested_err, tested_ok, verdict_count, verdict_wild, verdict_pairs, paired_ordered}
use Rattle.curves.proofs.chains.Chain.new.Goals as goal

pub returns-then-bad_count : goal.returns-then-bad_count
returns-then-bad_count c =
    let v = verdict_count c.args.side c.args.asked.now (sym c.bad_count.ensures ∙ c.if-bad_count.true) in
    rw v (ap Err c.without_text.ensures)

pub returns-in_err-pairs : goal.returns-in_err-pairs
returns-in_err-pairs c =
    let e : c.from_residual.result ≡ Err c.in_err-pairs.field-0.0 = search rules in
    let w = tested_err _ _ _ c.in_err-pairs.ensures in
    let v = verdict_wild c.args.side c.args.asked.now (sym c.bad_count.ensures ∙ c.if-bad_count.false) w.0 in
    rw (e, v, w.1)

pub returns-in_err-pair_by_pair : goal.returns-in_err-pair_by_pair
returns-in_err-pair_by_pair c =
    let e : c.from_residual-in_err-pair_by_pair.result ≡ Err c.in_err-pair_by_pair.field-0.0 = search rules in
    let t = tested_ok _ _ _ c.in_ok-pairs.ensures in
    let v = verdict_pairs c.args.side c.args.asked.now (sym c.bad_count.ensures ∙ c.if-bad_count.false) t.0 in
    let p = v ∙ (ap (paired c.args.side 2) (sym t.1) ∙ sym c.in_err-pair_by_pair.ensures) in
    rw (e, p)

pub invariant_of-result-clause-lined : goal.invariant_of-result-clause-lined
invariant_of-result-clause-lined c = paired_ordered c.args.side 2 _ (sym c.in_ok-pair_by_pair.ensures)

pub returns : goal.returns
returns c =
    let t = tested_ok _ _ _ c.in_ok-pairs.ensures in
    let v = verdict_pairs c.args.side c.args.asked.now (sym c.bad_count.ensures ∙ c.if-bad_count.false) t.0 in
    let p = v ∙ (ap (paired c.args.side 2) (sym t.1) ∙ sym c.in_ok-pair_by_pair.ensures) in
    rw (p, t.1)
