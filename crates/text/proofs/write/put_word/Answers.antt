use Rattle.std.proofs.Common.{◌+◌, [], ◌∷◌, get_or, drop, sym, refl, ◌∙◌}
use Rattle.std.proofs.lemmas.List.{at_drop_more, at_drop_all}
use Rattle.text.specs.Writes.{wrote, reached}
use Rattle.text.proofs.Writings.{write_byte, write_on, wrote_nothing, reached_nothing}
use Rattle.text.proofs.write.put_word.Goals as goal

pub loop-b-preserved : goal.loop-b-preserved
loop-b-preserved c =
    let w = c.args.w.now in
    let i = c.loop-b.b-index in
    let out = c.loop-b.out in
    let end = c.loop-b.end in
    let b = get_or w i 0 in
    let rest = drop (i + 1) w in
    let mid = c.put_byte-end.new.out in
    let k = c.put_byte-end.result in
    let one = write_byte out mid end k b c.put_byte-end.ensures.out c.put_byte-end.ensures.at in
    let two = write_on out mid (wrote mid k rest) end k (reached mid k rest) (b ∷ []) rest one.0 one.1 refl refl in (
      two.0 ∙ sym (at_drop_more (wrote out end) w i 0 c.loop-b-test.true) ∙ c.loop-b.invariant.0,
      two.1 ∙ sym (at_drop_more (reached out end) w i 0 c.loop-b-test.true) ∙ c.loop-b.invariant.1,
    )

pub returns : goal.returns
returns c =
    let w = c.args.w.now in
    let i = c.loop-b.b-index in
    let out = c.loop-b.out in
    let end = c.loop-b.end in
    record {
      out = sym (wrote_nothing out end) ∙ sym (at_drop_all (wrote out end) w i c.loop-b-test.false) ∙ c.loop-b.invariant.0;
      at = sym (reached_nothing out end) ∙ sym (at_drop_all (reached out end) w i c.loop-b-test.false) ∙ c.loop-b.invariant.1;
    }
