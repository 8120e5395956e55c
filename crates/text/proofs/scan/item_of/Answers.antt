use Rattle.std.proofs.Common.{length, take, unwrap_or, ap, ◌∙◌}
use Rattle.text.proofs.Scans.{run_first}
use Rattle.text.proofs.scan.item_of.Goals as goal

pub returns : goal.returns
returns c =
    let bs = c.args.rest.now in
    ap (λ n. take n bs) (c.unwrap_or-end.ensures ∙ ap (λ o. unwrap_or o (length bs)) c.first_end.ensures) ∙ run_first bs
