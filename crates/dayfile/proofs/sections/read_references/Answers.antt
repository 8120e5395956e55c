use Rattle.std.proofs.Common.{◌∙◌}
use Rattle.dayfile.specs.Views.{tick_values}
use Rattle.dayfile.proofs.Chains.{viewed_err}
use Rattle.dayfile.proofs.Parts.{hours_on}
use Rattle.dayfile.proofs.sections.read_references.Goals as goal

pub returns-in_err-read_list-clause-told : goal.returns-in_err-read_list-clause-told
returns-in_err-read_list-clause-told c =
    hours_on c.args.reader.now c.read_count.new.reader c.in_ok-read_count.field-0 _ c.in_ok-read_count.ensures.told
    (viewed_err tick_values c.from_residual-in_err-read_list.result c.in_err-read_list.field-0.0 c.read_list.new.reader c.from_residual-in_err-read_list.ensures.1 ∙ c.in_err-read_list.ensures.told)

pub returns-clause-told : goal.returns-clause-told
unfolding tick_values
returns-clause-told c = hours_on c.args.reader.now c.read_count.new.reader c.in_ok-read_count.field-0 _ c.in_ok-read_count.ensures.told c.in_ok-read_list.ensures.told
