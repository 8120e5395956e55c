use Rattle.std.proofs.Common.{ap, ◌∙◌}
use Rattle.text.specs.Format.{got, refused, closed}
use Rattle.text.specs.Tokens.{ahead}
use Rattle.text.proofs.Steps.{told_err}
use Rattle.callfile.specs.Names.{call_word}
use Rattle.callfile.specs.Calls.{end_of}
use Rattle.callfile.proofs.Endings.{ended_on, ended_no}
use Rattle.callfile.proofs.lines.read_name.Goals as goal

pub returns-in_err-name-clause-told : goal.returns-in_err-name-clause-told
returns-in_err-name-clause-told c =
    let f = c.in_err-name.field-0.0 in
    told_err c.from_residual.result f c.name.new.self c.from_residual.ensures.1 ∙ ended_no end_of call_word c.args.line c.args.reader.now f c.in_err-name.ensures.told

pub returns-in_err-close-clause-told : goal.returns-in_err-close-clause-told
returns-in_err-close-clause-told c =
    let l = c.args.line in
    let t = c.name.new.self in
    let f = c.in_err-close.field-0.0 in
    told_err c.from_residual-in_err-close.result f c.close.new.self c.from_residual-in_err-close.ensures.1
    ∙ ended_on end_of call_word l c.args.reader.now t c.in_ok-name.name (refused f) c.in_ok-name.ensures.told
    (c.in_err-close.ensures.told ∙ ap (λ b. closed b (tt {0}) l t.at (ahead t)) c.end_of.ensures)

pub returns-clause-told : goal.returns-clause-told
returns-clause-told c =
    let l = c.args.line in
    let t = c.name.new.self in
    let u = c.close.new.self in
    ended_on end_of call_word l c.args.reader.now t c.in_ok-name.name (got (tt {0}) u.at (ahead u)) c.in_ok-name.ensures.told
    (c.in_ok-close.ensures.told ∙ ap (λ b. closed b (tt {0}) l t.at (ahead t)) c.end_of.ensures)
