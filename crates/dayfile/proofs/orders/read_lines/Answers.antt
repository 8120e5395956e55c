use Rattle.std.proofs.Common.{◌≡◌, suc, ◌+◌, ◌-◌, sym, ap, ◌∙◌, arith}
use Rattle.book.specs.Drafted.{asked_of}
use Rattle.book.specs.Views.{places}
use Rattle.text.specs.Format.{got}
use Rattle.text.specs.Staged.{leaving, staged_read}
use Rattle.text.specs.Tokens.{ahead}
use Rattle.text.proofs.Steps.{filled_err}
use Rattle.text.proofs.Turns.{checked_no, checked_granted, checked_denied, staged_no, lines_on, lines_done}
use Rattle.dayfile.specs.Day.{booked, line_rule, order_line}
use Rattle.dayfile.specs.Lines.{order_text}
use Rattle.dayfile.specs.Loading.{book_of}
use Rattle.dayfile.proofs.orders.read_lines.Goals as goal

pub returns-in_err-draft : goal.returns-in_err-draft
returns-in_err-draft c =
    let n = c.args.n in
    let k = c.args.blocks in
    let i = c.loop-given.given in
    let b = book_of (places c.loop-given.rows) i in
    let s = c.loop-given.reader in
    let m : n - i ≡ suc (n - (i + 1)) = omega (arith, c.loop-given-test.true) in
    let no = checked_no (line_rule k b) order_text s.at s _ c.in_err-draft.ensures.told in
    record {
      told = filled_err c.from_residual.result c.in_err-draft.field-0.0 (book_of (places c.loop-given.rows) n) c.read_order.new.reader c.from_residual.ensures.1 ∙ sym (ap (leaving booked b) (staged_no (order_line k) booked b 0 (n - i) s (n - (i + 1)) m _ no)) ∙ c.loop-given.invariant.0;
      input = c.read_order.ensures.input ∙ c.loop-given.invariant.1;
    }

pub returns-in_err-enter_order : goal.returns-in_err-enter_order
returns-in_err-enter_order c =
    let n = c.args.n in
    let k = c.args.blocks in
    let i = c.loop-given.given in
    let b = book_of (places c.loop-given.rows) i in
    let s = c.loop-given.reader in
    let t = c.read_order.new.reader in
    let m : n - i ≡ suc (n - (i + 1)) = omega (arith, c.loop-given-test.true) in
    let f = c.in_err-enter_order.field-0.0 in
    let rule = c.in_err-enter_order.ensures.rule in
    let no = checked_denied (line_rule k b) order_text s.at s t (asked_of c.in_ok-draft.draft) c.in_ok-draft.ensures.told f rule.0 rule.1 in
    record {
      told = filled_err c.from_residual-in_err-enter_order.result f (book_of (places c.enter_order.new.rows) n) t c.from_residual-in_err-enter_order.ensures.1 ∙ sym (ap (leaving booked b) (staged_no (order_line k) booked b 0 (n - i) s (n - (i + 1)) m f no)) ∙ c.loop-given.invariant.0;
      input = c.read_order.ensures.input ∙ c.loop-given.invariant.1;
    }

pub loop-given-preserved : goal.loop-given-preserved
loop-given-preserved c =
    let n = c.args.n in
    let k = c.args.blocks in
    let i = c.loop-given.given in
    let b = book_of (places c.loop-given.rows) i in
    let s = c.loop-given.reader in
    let t = c.read_order.new.reader in
    let a = asked_of c.in_ok-draft.draft in
    let m : n - i ≡ suc (n - (i + 1)) = omega (arith, c.loop-given-test.true) in
    let done = c.in_ok-enter_order.ensures in
    let yes = checked_granted (line_rule k b) order_text s.at s t a c.in_ok-draft.ensures.told done.rule in (
      ap (λ ps. leaving booked (book_of ps (i + 1)) (staged_read (order_line k) booked (book_of ps (i + 1)) (n - (i + 1)) 0 t.at (ahead t))) done.leaves ∙ sym (lines_on (order_line k) booked b 0 (n - i) s (n - (i + 1)) m t a yes) ∙ c.loop-given.invariant.0,
      c.read_order.ensures.input ∙ c.loop-given.invariant.1,
    )

pub returns : goal.returns
returns c =
    let n = c.args.n in
    let k = c.args.blocks in
    let i = c.loop-given.given in
    let b = book_of (places c.loop-given.rows) i in
    let s = c.loop-given.reader in
    let z : n ≡ i = omega (arith, c.loop-given-test.false) in
    record {
      told = ap (λ j. got (book_of (places c.loop-given.rows) j) s.at (ahead s)) z ∙ sym (lines_done (order_line k) booked b 0 (n - i) s (omega (arith, c.loop-given-test.false))) ∙ c.loop-given.invariant.0;
      input = c.loop-given.invariant.1;
    }
