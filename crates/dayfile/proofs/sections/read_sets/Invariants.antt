use Rattle.std.proofs.Common.{◌≡◌, ◌-◌, length}
use Rattle.book.specs.Views.{sets_of}
use Rattle.text.specs.Staged.{many}
use Rattle.text.specs.Tokens.{ahead}
use Rattle.text.proofs.Turns.{before}
use Rattle.dayfile.specs.Day.{set_line}
use Rattle.dayfile.proofs.sections.read_sets.Given as goal

abbrev pub invariant-loop : goal.invariant-loop
invariant-loop l =
    (before (sets_of l.blocks) ((many set_line (l.n - l.counter)).read 0 l.reader.at (ahead l.reader)) ≡ (many set_line l.n).read 0 l.initial.reader.at (ahead l.initial.reader))
    × (length (sets_of l.blocks) ≡ l.counter)
    × (l.reader.input.now ≡ l.initial.reader.input.now)
