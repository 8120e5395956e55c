use Rattle.std.proofs.Common.{◌≡◌, ◌++◌, string_bytes}
use Rattle.std.specs.Iterator.Adapters.{zip_first, zip_second}
use Rattle.std.specs.Slice.Iter.{iter_rest}
use Rattle.report.specs.Lines.{answer_lines}
use Rattle.report.proofs.answers.push_answers.Given as goal

abbrev pub invariant-loop-line : goal.invariant-loop-line
invariant-loop-line l = string_bytes l.out ++ answer_lines (iter_rest (zip_first l.line-iterator)) (iter_rest (zip_second l.line-iterator)) ≡ string_bytes l.initial.out ++ answer_lines l.lines l.answers
