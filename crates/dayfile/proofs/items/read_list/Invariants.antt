use Rattle.std.proofs.Common.{◌≡◌, ◌-◌, map, take}
use Rattle.text.specs.Staged.{many}
use Rattle.text.specs.Tokens.{ahead}
use Rattle.text.proofs.Turns.{before}
use Rattle.dayfile.specs.Lines.{closing}
use Rattle.dayfile.proofs.items.read_list.Given as goal

abbrev pub invariant-loop-i : goal.invariant-loop-i
invariant-loop-i g l =
    (before (map g.T.Item.plain (take l.i l.list)) ((many (λ k. g.T.Item.form (closing k)) (l.n - l.i)).read l.line l.reader.at (ahead l.reader))
    ≡ (many (λ k. g.T.Item.form (closing k)) l.n).read l.line l.initial.reader.at (ahead l.initial.reader))
    × (l.reader.input.now ≡ l.initial.reader.input.now)
