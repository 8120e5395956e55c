use Rattle.std.proofs.Common.{◌-◌, vec_items}
use Rattle.text.specs.Tokens.{ahead}
use Rattle.callfile.specs.Scripts.{script_of}
use Rattle.callfile.proofs.Sofar.{Sofar}
use Rattle.callfile.proofs.scripts.read_lines.Given as goal

abbrev pub invariant-loop : goal.invariant-loop
invariant-loop l = Sofar (vec_items l.lines) (vec_items l.calls) (script_of (l.n - l.counter) l.reader.at (ahead l.reader)) (script_of l.n l.initial.reader.at (ahead l.initial.reader))
