use Rattle.std.proofs.Common.{◌≡◌, suc, ◌+◌, ◌-◌, ◌<◌, length, sym, refl, ap, ◌∙◌, arith}
use Rattle.std.proofs.lemmas.List.{length_push}
use Rattle.book.specs.Views.{sets_of}
use Rattle.text.specs.Staged.{many}
use Rattle.text.specs.Tokens.{ahead}
use Rattle.text.proofs.Turns.{before, before_none, many_on, many_no, many_done}
use Rattle.dayfile.specs.Day.{set_line}
use Rattle.dayfile.proofs.Chains.{viewed_err}
use Rattle.dayfile.proofs.Parts.{number_fits, push_adds}
use Rattle.dayfile.proofs.sections.read_sets.Goals as goal

pub loop-init : goal.loop-init
loop-init c =
    let n = c.args.n in
    let s = c.args.reader.now in
    let z : n - 0 ≡ n = omega arith in (
      ap (λ m. before (sets_of c.none-blocks.result) ((many set_line m).read 0 s.at (ahead s))) z ∙ ap (λ xs. before xs ((many set_line n).read 0 s.at (ahead s))) c.none-blocks.ensures ∙ before_none ((many set_line n).read 0 s.at (ahead s)),
      ap length c.none-blocks.ensures,
      refl,
    )

pub returns-in_err-hours : goal.returns-in_err-hours
returns-in_err-hours c =
    let n = c.args.n in
    let i = c.loop.counter in
    let s = c.loop.reader in
    let m : n - i ≡ suc (n - (i + 1)) = omega (arith, c.loop-test.true) in
    record {
      told = viewed_err sets_of c.from_residual.result c.in_err-hours.field-0.0 c.number.new.self c.from_residual.ensures.1 ∙ sym (many_no set_line 0 (n - i) s (sets_of c.loop.blocks) (n - (i + 1)) m _ c.in_err-hours.ensures.told) ∙ c.loop.invariant.0;
      input = c.number.ensures.input ∙ c.loop.invariant.2;
    }

pub loop-preserved : goal.loop-preserved
loop-preserved c =
    let n = c.args.n in
    let i = c.loop.counter in
    let s = c.loop.reader in
    let t = c.number.new.self in
    let h = c.in_ok-hours.hours in
    let sets = sets_of c.loop.blocks in
    let m : n - i ≡ suc (n - (i + 1)) = omega (arith, c.loop-test.true) in
    let fits = number_fits 1 16777215 10 s.at s h t.at (ahead t) (omega arith) refl c.in_ok-hours.ensures.told in
    let few : length sets < 14 = omega (arith, c.loop.invariant.1, c.loop-test.true, c.requires) in
    let w = c.push.ensures.leaves ∙ push_adds sets h fits.0 fits.1 few in (
      ap (λ xs. before xs ((many set_line (n - (i + 1))).read 0 t.at (ahead t))) w ∙ sym (many_on set_line 0 (n - i) s sets (n - (i + 1)) m t h c.in_ok-hours.ensures.told) ∙ c.loop.invariant.0,
      ap length w ∙ length_push sets h ∙ ap (λ k. k + 1) c.loop.invariant.1,
      c.number.ensures.input ∙ c.loop.invariant.2,
    )

pub returns : goal.returns
returns c =
    let n = c.args.n in
    let i = c.loop.counter in
    let s = c.loop.reader in
    record {
      told = sym (many_done set_line 0 (n - i) s (sets_of c.loop.blocks) (omega (arith, c.loop-test.false))) ∙ c.loop.invariant.0;
      input = c.loop.invariant.2;
    }
