use Rattle.std.proofs.Common.{List, ℕ, ap, ◌∙◌}
use Rattle.std.proofs.lemmas.Result.{MatchResult-at_ok}
use Rattle.clearing.specs.Sharing.{both_sides}
use Rattle.clearing.proofs.Shares.{joined, joined_same}
use Rattle.clearing.proofs.sharing.serve_kinds.Goals as goal

pub returns : goal.returns
returns c =
    let turn = (MatchResult-at_ok _ _ c.unwrap.result c.unwrap.ensures c.share_kinds.ensures.outcome).in_turn in
    let to = c.share_kinds.new in
    c.larger-2.ensures ∙ ap (λ (l : List ℕ). both_sides to.to_first l 256) c.larger.ensures ∙ joined to.to_first to.to_second to.to_third 256 ∙ joined_same turn.first turn.second turn.third 256
