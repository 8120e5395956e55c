use Rattle.std.proofs.Common.{[], refl}
use Rattle.text.specs.Tokens.{ahead}
use Rattle.book.specs.Views.{places}
use Rattle.dayfile.specs.Day.{day_text}
use Rattle.day.specs.States.{no_results, no_marks}
use Rattle.day.proofs.Opened.{opened_got}
use Rattle.day.proofs.days.Day.load.Goals as goal

pub returns-clause-told : goal.returns-clause-told
unfolding no_results no_marks
returns-clause-told c =
    let s = c.args.reader.now in
    let end = c.load.new.reader in
    let says = c.in_ok-opening.ensures in
    opened_got (day_text.read 0 s.at (ahead s)) c.in_ok-opening.opening end.at (ahead end) (places c.load.new.rows) c.load.new.hours c.load.new.marks [] says.answer says.rows says.hours says.marks refl
