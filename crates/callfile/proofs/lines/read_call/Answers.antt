use Rattle.std.proofs.Common.{sym, ◌∙◌}
use Rattle.faults.specs.Answers.{viewed}
use Rattle.text.specs.Tokens.{told}
use Rattle.text.proofs.Turns.{then_on, then_no}
use Rattle.dayfile.proofs.Chains.{viewed_err}
use Rattle.dayfile.proofs.Parts.{second}
use Rattle.calls.specs.Moves.{move_of}
use Rattle.callfile.specs.Calls.{name_text, body}
use Rattle.callfile.proofs.Described.{faithful_call, call_told}
use Rattle.callfile.proofs.lines.read_call.Goals as goal

pub returns-in_err-name : goal.returns-in_err-name
returns-in_err-name c =
    let s = c.args.reader.now in
    record {
      told = viewed_err move_of c.from_residual.result c.in_err-name.field-0.0 c.read_name.new.reader c.from_residual.ensures.1 ∙ call_told s _
          (then_no name_text body s.at s _ c.in_err-name.ensures.told);
      input = c.read_name.ensures.input;
      faithful = faithful_call;
    }

pub returns : goal.returns
returns c =
    let s = c.args.reader.now in
    let name = c.in_ok-name.name in
    record {
      told = sym (second name (told (viewed move_of c.read_body.result) c.read_body.new.reader)) ∙ call_told s _
          (then_on name_text body s.at s c.read_name.new.reader name _ c.in_ok-name.ensures.told c.read_body.ensures.told);
      input = c.read_body.ensures.input ∙ c.read_name.ensures.input;
      faithful = faithful_call;
    }
