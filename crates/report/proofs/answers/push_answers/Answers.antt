use Rattle.std.proofs.Common.{string_bytes, inl, inr}
use Rattle.std.specs.Iterator.Adapters.{zip_first, zip_second}
use Rattle.std.specs.Slice.Iter.{iter_rest}
use Rattle.report.proofs.Steps.{answer_more, answers_end}
use Rattle.report.proofs.answers.push_answers.Goals as goal

pub loop-line-preserved : goal.loop-line-preserved
loop-line-preserved c =
    let steps = c.in-Some.ensures.steps in
    answer_more _ _ _ _ c.in-Some.line.now c.in-Some.answer.now (string_bytes c.loop-line.out) (string_bytes c.push_answer.new.out) _ steps.0 steps.1 c.loop-line.invariant c.in_ok-push_answer.ensures

pub returns : goal.returns
returns c =
    answers_end (iter_rest (zip_first c.loop-line.line-iterator)) (iter_rest (zip_second c.loop-line.line-iterator)) (string_bytes c.loop-line.out) _
    (elim c.in-None.ensures.steps [ inl s ↦ inl s.1.0 | inr s ↦ inr s.1.0 ])
    c.loop-line.invariant
