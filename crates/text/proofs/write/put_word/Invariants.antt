use Rattle.std.proofs.Common.{◌≡◌, drop}
use Rattle.text.specs.Writes.{wrote, reached}
use Rattle.text.proofs.write.put_word.Given as goal

abbrev pub invariant-loop-b : goal.invariant-loop-b
invariant-loop-b l = (wrote l.out l.end (drop l.b-index l.w) ≡ wrote l.initial.out l.at l.w) × (reached l.out l.end (drop l.b-index l.w) ≡ reached l.initial.out l.at l.w)
