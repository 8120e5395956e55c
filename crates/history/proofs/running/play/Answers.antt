use Rattle.std.proofs.Common.{◌∙◌}
use Rattle.book.specs.declared.drafts.Terms.TheVariants.{Market}
use Rattle.curves.specs.declared.sides.Side.TheVariants.{Buy}
use Rattle.calls.specs.declared.calls.Call.{Call}
use Rattle.calls.specs.declared.calls.Call.TheVariants.{Enter}
use Rattle.day.specs.Views.{day_of}
use Rattle.history.proofs.Playing.{play_none, play_more, play_all}
use Rattle.history.proofs.running.play.Goals as goal

-- what an array of calls reads past its end
abbrev zero : Call
zero = Enter (record { row = 0; member = 0; product = 0; side = Buy; terms = Market 0 })

pub loop-i-init : goal.loop-i-init
loop-i-init c h t =
    let d = c.args.day.now in
    play_none (day_of d).references (day_of d).sets h d _ _ t.hours t.state t.answered

pub loop-i-preserved : goal.loop-i-preserved
loop-i-preserved c h t =
    let d = c.args.day.now in
    play_more (day_of d).references (day_of d).sets h c.args.calls.now c.loop-i.answers c.loop-i.i zero c.loop-i.day c.call.new.self c.call.result
    c.loop-i-test.true (c.loop-i.auto.answers ∙ c.requires) t.hours c.call.ensures.gives c.call.ensures.leaves (c.loop-i.invariant h t)

pub returns : goal.returns
returns c h t =
    let d = c.args.day.now in
    play_all (day_of d).references (day_of d).sets h c.args.calls.now c.loop-i.answers c.loop-i.i (day_of c.loop-i.day) c.loop-i-test.false (c.loop-i.auto.answers ∙ c.requires) (c.loop-i.invariant h t)
