use Rattle.std.proofs.Common.{◌≡◌, map}
use Rattle.text.specs.Pages.{printed}
use Rattle.dayfile.specs.Lines.{closing}
use Rattle.dayfile.proofs.Chaining.{rest}
use Rattle.dayfile.proofs.items.put_list.Given as goal

abbrev pub invariant-loop-i : goal.invariant-loop-i
invariant-loop-i g l =
    printed 40000 l.page (rest (λ k. g.T.Item.form (closing k)) (map g.T.Item.plain l.list) l.i)
    ≡ printed 40000 l.initial.page (rest (λ k. g.T.Item.form (closing k)) (map g.T.Item.plain l.list) 0)
