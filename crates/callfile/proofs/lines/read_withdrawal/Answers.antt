use Rattle.std.proofs.Common.{ℕ, ◌∙◌}
use Rattle.text.specs.Format.{Format, item}
use Rattle.text.specs.Items.{number}
use Rattle.text.proofs.Turns.{then_on, then_no, recast_told}
use Rattle.dayfile.proofs.Chains.{viewed_err}
use Rattle.calls.specs.Moves.{move_of, withdrawing}
use Rattle.callfile.specs.Calls.{withdraw_items, row_and_member}
use Rattle.callfile.proofs.lines.read_withdrawal.Goals as goal

-- what follows the row
abbrev g1 : ℕ → Format ℕ
g1 _ = item (number 1 999) 10

pub returns-in_err-row : goal.returns-in_err-row
returns-in_err-row c =
    let l = c.args.line in
    let s = c.args.reader.now in
    record {
      told = viewed_err move_of c.from_residual.result c.in_err-row.field-0.0 c.number.new.self c.from_residual.ensures.1 ∙ recast_told (λ p. withdrawing p.0 p.1) row_and_member withdraw_items l s _
          (then_no (item (number 0 255) 32) g1 l s _ c.in_err-row.ensures.told);
      input = c.number.ensures.input;
    }

pub returns-in_err-member : goal.returns-in_err-member
returns-in_err-member c =
    let l = c.args.line in
    let s = c.args.reader.now in
    record {
      told = viewed_err move_of c.from_residual-in_err-member.result c.in_err-member.field-0.0 c.number-2.new.self c.from_residual-in_err-member.ensures.1 ∙ recast_told (λ p. withdrawing p.0 p.1) row_and_member withdraw_items l s _
          (then_on (item (number 0 255) 32) g1 l s c.number.new.self c.in_ok-row.row _ c.in_ok-row.ensures.told c.in_err-member.ensures.told);
      input = c.number-2.ensures.input ∙ c.number.ensures.input;
    }

pub returns : goal.returns
returns c =
    let l = c.args.line in
    let s = c.args.reader.now in
    record {
      told = recast_told (λ p. withdrawing p.0 p.1) row_and_member withdraw_items l s _
          (then_on (item (number 0 255) 32) g1 l s c.number.new.self c.in_ok-row.row _ c.in_ok-row.ensures.told c.in_ok-member.ensures.told);
      input = c.number-2.ensures.input ∙ c.number.ensures.input;
    }
