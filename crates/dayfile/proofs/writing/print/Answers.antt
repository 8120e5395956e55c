use Rattle.std.proofs.Common.{◌≡◌, ℕ, ◌++◌, length, sym, ap, ◌∙◌, refl, append_assoc, rules}
use Rattle.book.specs.Views.{places, sets_of}
use Rattle.text.specs.Pages.{printed}
use Rattle.text.proofs.Paging.{printed_two, printed_whole}
use Rattle.dayfile.specs.Day.{day_text, hours_text, blocks_text}
use Rattle.dayfile.specs.Views.{tick_values}
use Rattle.dayfile.specs.Sequence.{sequence}
use Rattle.dayfile.specs.Written.{table_text, day_in, bytes_of}
use Rattle.dayfile.proofs.Bounded.{day_short}
use Rattle.dayfile.proofs.Worded.{day_text_is}
use Rattle.dayfile.proofs.writing.print.Goals as goal

pub returns-clause-is : goal.returns-clause-is
unfolding bytes_of
returns-clause-is c =
    let o = c.args.opening.now in
    let rows = c.args.rows.now in
    let d = day_in o rows in
    let h = hours_text.text (tick_values o.references) in
    let b = blocks_text.text (sets_of o.blocks) in
    let t = table_text (sequence (places rows)) in
    let hours : length o.references ≡ 24 = search rules in
    let two = printed_two 40000 c.new-page.result _ _ h b (h ++ b) c.put_references.ensures c.put_blocks.ensures refl in
    let all = printed_two 40000 c.new-page.result _ _ (h ++ b) t (day_text.text d) two c.put_table.ensures (append_assoc h b t ∙ sym (day_text_is d)) in
    all ∙ ap (λ page. printed 40000 page (day_text.text d)) c.new-page.ensures ∙ printed_whole 40000 (day_text.text d) (day_short o rows hours c.requires)
