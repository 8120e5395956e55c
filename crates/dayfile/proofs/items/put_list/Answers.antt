use Rattle.std.proofs.Common.{◌≡◌, ℕ, ◌+◌, ◌-◌, ◌++◌, length, map, sym, ap, ◌∙◌}
use Rattle.text.specs.Closing.{close_byte}
use Rattle.text.specs.Format.{Format}
use Rattle.text.specs.Pages.{printed}
use Rattle.dayfile.specs.Lines.{closing}
use Rattle.dayfile.proofs.Chaining.{rest, rest_all, viewed_more, viewed_end, page_turn, page_end}
use Rattle.dayfile.proofs.items.put_list.Goals as goal

pub loop-i-preserved : goal.loop-i-preserved
loop-i-preserved g c =
    let f = g.T.Item.plain in
    let F : ℕ → Format g.T.Item.Plain = λ k. g.T.Item.form (closing k) in
    let xs = c.args.list.now in
    let i = c.loop-i.i in
    let x = c.index-list-i.result in
    let t = (g.T.Item.form (close_byte c.end_before.result)).text (f x) in
    let r = rest F (map f xs) (i + 1) in
    let more = viewed_more f F xs i x c.loop-i-test.true c.index-list-i.is ∙ ap (λ b. (g.T.Item.form b).text (f x) ++ r) (sym c.end_before.ensures) in
    page_turn 40000 c.loop-i.page c.put.new.page t r (rest F (map f xs) i) _ more c.put.ensures c.loop-i.invariant

pub returns : goal.returns
returns g c =
    let F : ℕ → Format g.T.Item.Plain = λ k. g.T.Item.form (closing k) in
    let xs = c.args.list.now in
    let ys = map g.T.Item.plain xs in
    page_end 40000 c.loop-i.page (rest F ys c.loop-i.i) _ (viewed_end g.T.Item.plain F xs c.loop-i.i c.loop-i-test.false) c.loop-i.invariant
    ∙ ap (printed 40000 c.args.page.now) (rest_all F ys)
