use Rattle.std.proofs.Common.{ℕ, ◌∙◌}
use Rattle.curves.specs.declared.sides.Side.{Side}
use Rattle.text.specs.Format.{Format, item, then}
use Rattle.text.specs.Items.{number}
use Rattle.text.proofs.Steps.{told_err}
use Rattle.text.proofs.Turns.{then_on, then_no, dressed_told}
use Rattle.dayfile.specs.Kinds.{side_text}
use Rattle.dayfile.proofs.Chains.{side_told}
use Rattle.calls.specs.declared.posts.Portion.{Portion}
use Rattle.callfile.specs.Names.{portion_word, portion_text, word_of}
use Rattle.callfile.specs.Calls.{post_items, as_post, post_parts}
use Rattle.callfile.proofs.lines.read_post.Goals as goal

-- what follows the member, the hour, the side and the volume
abbrev g4 : ℕ → Format Portion
g4 _ = portion_text

abbrev g3 : Side → Format (ℕ × Portion)
g3 _ = then (item (number 1 100000) 32) g4

abbrev g2 : ℕ → Format (Side × (ℕ × Portion))
g2 _ = then side_text g3

abbrev g1 : ℕ → Format (ℕ × (Side × (ℕ × Portion)))
g1 _ = then (item (number 1 24) 32) g2

pub returns-in_err-member : goal.returns-in_err-member
returns-in_err-member c =
    let l = c.args.line in
    let s0 = c.args.reader.now in
    record {
      told = told_err c.from_residual.result c.in_err-member.field-0.0 c.number.new.self c.from_residual.ensures.1 ∙ dressed_told as_post post_parts post_items l s0 _
          (then_no (item (number 1 999) 32) g1 l s0 _ c.in_err-member.ensures.told);
      input = c.number.ensures.input;
    }

pub returns-in_err-hour : goal.returns-in_err-hour
returns-in_err-hour c =
    let l = c.args.line in
    let s0 = c.args.reader.now in
    let s1 = c.number.new.self in
    record {
      told = told_err c.from_residual-in_err-hour.result c.in_err-hour.field-0.0 c.number-2.new.self c.from_residual-in_err-hour.ensures.1 ∙ dressed_told as_post post_parts post_items l s0 _
          (then_on (item (number 1 999) 32) g1 l s0 s1 c.in_ok-member.member _ c.in_ok-member.ensures.told
          (then_no (item (number 1 24) 32) g2 l s1 _ c.in_err-hour.ensures.told));
      input = c.number-2.ensures.input ∙ c.number.ensures.input;
    }

pub returns-in_err-word : goal.returns-in_err-word
returns-in_err-word c =
    let l = c.args.line in
    let s0 = c.args.reader.now in
    let s1 = c.number.new.self in
    let s2 = c.number-2.new.self in
    record {
      told = told_err c.from_residual-in_err-word.result c.in_err-word.field-0.0 c.word.new.self c.from_residual-in_err-word.ensures.1 ∙ dressed_told as_post post_parts post_items l s0 _
          (then_on (item (number 1 999) 32) g1 l s0 s1 c.in_ok-member.member _ c.in_ok-member.ensures.told
          (then_on (item (number 1 24) 32) g2 l s1 s2 c.in_ok-hour.hour _ c.in_ok-hour.ensures.told
          (then_no side_text g3 l s2 _ (side_told l s2 _ c.in_err-word.ensures.told))));
      input = c.word.ensures.input ∙ c.number-2.ensures.input ∙ c.number.ensures.input;
    }

pub returns-in_err-volume : goal.returns-in_err-volume
returns-in_err-volume c =
    let l = c.args.line in
    let s0 = c.args.reader.now in
    let s1 = c.number.new.self in
    let s2 = c.number-2.new.self in
    let s3 = c.word.new.self in
    record {
      told = told_err c.from_residual-in_err-volume.result c.in_err-volume.field-0.0 c.number-3.new.self c.from_residual-in_err-volume.ensures.1 ∙ dressed_told as_post post_parts post_items l s0 _
          (then_on (item (number 1 999) 32) g1 l s0 s1 c.in_ok-member.member _ c.in_ok-member.ensures.told
          (then_on (item (number 1 24) 32) g2 l s1 s2 c.in_ok-hour.hour _ c.in_ok-hour.ensures.told
          (then_on side_text g3 l s2 s3 c.in_ok-word.word.side _ (side_told l s2 _ c.in_ok-word.ensures.told)
          (then_no (item (number 1 100000) 32) g4 l s3 _ c.in_err-volume.ensures.told))));
      input = c.number-3.ensures.input ∙ c.word.ensures.input ∙ c.number-2.ensures.input ∙ c.number.ensures.input;
    }

pub returns-in_err-size : goal.returns-in_err-size
returns-in_err-size c =
    let l = c.args.line in
    let s0 = c.args.reader.now in
    let s1 = c.number.new.self in
    let s2 = c.number-2.new.self in
    let s3 = c.word.new.self in
    let s4 = c.number-3.new.self in
    record {
      told = told_err c.from_residual-in_err-size.result c.in_err-size.field-0.0 c.word-2.new.self c.from_residual-in_err-size.ensures.1 ∙ dressed_told as_post post_parts post_items l s0 _
          (then_on (item (number 1 999) 32) g1 l s0 s1 c.in_ok-member.member _ c.in_ok-member.ensures.told
          (then_on (item (number 1 24) 32) g2 l s1 s2 c.in_ok-hour.hour _ c.in_ok-hour.ensures.told
          (then_on side_text g3 l s2 s3 c.in_ok-word.word.side _ (side_told l s2 _ c.in_ok-word.ensures.told)
          (then_on (item (number 1 100000) 32) g4 l s3 s4 c.in_ok-volume.volume _ c.in_ok-volume.ensures.told
          (dressed_told (λ w. w.portion) word_of (item portion_word 10) l s4 _ c.in_err-size.ensures.told)))));
      input = c.word-2.ensures.input ∙ c.number-3.ensures.input ∙ c.word.ensures.input ∙ c.number-2.ensures.input ∙ c.number.ensures.input;
    }

pub returns : goal.returns
returns c =
    let l = c.args.line in
    let s0 = c.args.reader.now in
    let s1 = c.number.new.self in
    let s2 = c.number-2.new.self in
    let s3 = c.word.new.self in
    let s4 = c.number-3.new.self in
    record {
      told = dressed_told as_post post_parts post_items l s0 _
          (then_on (item (number 1 999) 32) g1 l s0 s1 c.in_ok-member.member _ c.in_ok-member.ensures.told
          (then_on (item (number 1 24) 32) g2 l s1 s2 c.in_ok-hour.hour _ c.in_ok-hour.ensures.told
          (then_on side_text g3 l s2 s3 c.in_ok-word.word.side _ (side_told l s2 _ c.in_ok-word.ensures.told)
          (then_on (item (number 1 100000) 32) g4 l s3 s4 c.in_ok-volume.volume _ c.in_ok-volume.ensures.told
          (dressed_told (λ w. w.portion) word_of (item portion_word 10) l s4 _ c.in_ok-size.ensures.told)))));
      input = c.word-2.ensures.input ∙ c.number-3.ensures.input ∙ c.word.ensures.input ∙ c.number-2.ensures.input ∙ c.number.ensures.input;
    }
