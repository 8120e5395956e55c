use Rattle.std.proofs.Common.{◌≡◌, ℕ, suc, ◌+◌, ◌-◌, [], length, map, take, sym, refl, ap, ◌∙◌, arith}
use Rattle.std.proofs.lemmas.List.{take_all, take_more_set, map_push}
use Rattle.text.specs.Format.{Format, got}
use Rattle.text.specs.Staged.{many}
use Rattle.text.specs.Tokens.{ahead}
use Rattle.text.proofs.Steps.{filled_err}
use Rattle.text.proofs.Turns.{before, before_none, many_on, many_no, many_done}
use Rattle.dayfile.specs.Lines.{closing}
use Rattle.dayfile.proofs.items.read_list.Goals as goal

pub loop-i-init : goal.loop-i-init
loop-i-init g c =
    let n = length c.args.list.now in
    let l = c.args.line in
    let s = c.args.reader.now in
    let F : ℕ → Format g.T.Item.Plain = λ k. g.T.Item.form (closing k) in
    let z : n - 0 ≡ n = omega arith in
    (ap (λ m. before [] ((many F m).read l s.at (ahead s))) z ∙ before_none ((many F n).read l s.at (ahead s)), refl)

pub returns-in_err-item : goal.returns-in_err-item
returns-in_err-item g c =
    let n = length c.args.list.now in
    let l = c.args.line in
    let i = c.loop-i.i in
    let s = c.loop-i.reader in
    let F : ℕ → Format g.T.Item.Plain = λ k. g.T.Item.form (closing k) in
    let m : n - i ≡ suc (n - (i + 1)) = omega (arith, c.loop-i-test.true) in
    let r = c.in_err-item.ensures.told ∙ ap (λ b. (g.T.Item.form b).read l s.at (ahead s)) c.end_before.ensures in
    record {
      told = filled_err c.from_residual.result c.in_err-item.field-0.0 _ c.read.new.reader c.from_residual.ensures.1
          ∙ sym (many_no F l (n - i) s (map g.T.Item.plain (take i c.loop-i.list)) (n - (i + 1)) m _ r) ∙ c.loop-i.invariant.0;
      input = c.read.ensures.input ∙ c.loop-i.invariant.1;
    }

pub loop-i-preserved : goal.loop-i-preserved
loop-i-preserved g c =
    let n = length c.args.list.now in
    let l = c.args.line in
    let i = c.loop-i.i in
    let s = c.loop-i.reader in
    let t = c.read.new.reader in
    let q = c.in_ok-item.field-0 in
    let f = g.T.Item.plain in
    let F : ℕ → Format g.T.Item.Plain = λ k. g.T.Item.form (closing k) in
    let m : n - i ≡ suc (n - (i + 1)) = omega (arith, c.loop-i-test.true) in
    let r = c.in_ok-item.ensures.told ∙ ap (λ b. (g.T.Item.form b).read l s.at (ahead s)) c.end_before.ensures in
    let w = ap (map f) (take_more_set c.loop-i.list i q (omega (arith, c.loop-i-test.true, c.loop-i.auto.list))) ∙ map_push f (take i c.loop-i.list) q in (
      ap (λ xs. before xs ((many F (n - (i + 1))).read l t.at (ahead t))) w ∙ sym (many_on F l (n - i) s (map f (take i c.loop-i.list)) (n - (i + 1)) m t (f q) r) ∙ c.loop-i.invariant.0,
      c.read.ensures.input ∙ c.loop-i.invariant.1,
    )

pub returns : goal.returns
returns g c =
    let n = length c.args.list.now in
    let i = c.loop-i.i in
    let s = c.loop-i.reader in
    let f = g.T.Item.plain in
    let F : ℕ → Format g.T.Item.Plain = λ k. g.T.Item.form (closing k) in
    let all = take_all i c.loop-i.list (omega (arith, c.loop-i-test.false, c.loop-i.auto.list)) in
    record {
      told = ap (λ xs. got (map f xs) s.at (ahead s)) (sym all) ∙ sym (many_done F c.args.line (n - i) s (map f (take i c.loop-i.list)) (omega (arith, c.loop-i-test.false))) ∙ c.loop-i.invariant.0;
      input = c.loop-i.invariant.1;
    }
