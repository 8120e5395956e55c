use Rattle.std.proofs.Common.{length}
use Rattle.std.proofs.lemmas.Bool.{eq-eqb}
use Rattle.text.specs.Tokens.{ahead}
use Rattle.calls.specs.Moves.{moves}
use Rattle.day.specs.Views.{day_of}
use Rattle.history.proofs.Whole.{ran_if}
use Rattle.history.proofs.running.run.Goals as goal

pub returns : goal.returns
returns c =
    let reader = c.new-reader.result in
    let end = c.load.new.reader in
    ran_if (moves c.args.calls.now) c.args.answers.now c.play.new.answers (day_of c.in_ok-day.day) (day_of c.play.new.day)
    _ (eq-eqb (length c.args.answers.now) (length c.args.calls.now) c.if-answers-calls.false)
    c.args.text.now reader.at reader.input.now end.at (ahead end) c.new-reader.ensures.at c.new-reader.ensures.input c.in_ok-day.ensures.told c.play.ensures
