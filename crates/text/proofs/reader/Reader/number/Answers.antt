use Rattle.std.proofs.Common.{Ok, ◌∙◌}
use Rattle.text.specs.Closing.{close_byte}
use Rattle.text.specs.Format.{got, refused}
use Rattle.text.specs.Items.{number}
use Rattle.text.specs.Tokens.{seen, number_seen, ahead}
use Rattle.text.proofs.Steps.{looks_number, alone_told, item_on, told_err}
use Rattle.text.proofs.reader.Reader.number.Goals as goal

pub returns-in_err-close-clause-told : goal.returns-in_err-close-clause-told
returns-in_err-close-clause-told c =
    let n = c.next.ensures in
    let low = c.args.low in
    let high = c.args.high in
    let s = c.args.self.now in
    let t = c.next.new.self in
    let f = c.in_err-close.field-0.0 in
    told_err c.from_residual-in_err-close.result f c.close.new.self c.from_residual-in_err-close.ensures.1
    ∙ item_on (number low high) (close_byte c.args.end) c.args.line s t c.in_ok-n.n (refused f)
    (alone_told (number low high) (number_seen low high) (looks_number low high) c.args.line s t (seen c.next.result.token) c.next.result.place (Ok c.in_ok-n.n) c.in_ok-n.ensures.answer n.token n.place n.at n.input)
    c.in_err-close.ensures.told

pub returns-clause-told : goal.returns-clause-told
returns-clause-told c =
    let n = c.next.ensures in
    let low = c.args.low in
    let high = c.args.high in
    let s = c.args.self.now in
    let t = c.next.new.self in
    let u = c.close.new.self in
    item_on (number low high) (close_byte c.args.end) c.args.line s t c.in_ok-n.n (got (tt {0}) u.at (ahead u))
    (alone_told (number low high) (number_seen low high) (looks_number low high) c.args.line s t (seen c.next.result.token) c.next.result.place (Ok c.in_ok-n.n) c.in_ok-n.ensures.answer n.token n.place n.at n.input)
    c.in_ok-close.ensures.told
