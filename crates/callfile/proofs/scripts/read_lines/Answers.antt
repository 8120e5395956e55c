use Rattle.std.proofs.Common.{◌≡◌, suc, ◌+◌, ◌-◌, is_ok, vec_items, ap, arith}
use Rattle.std.proofs.ResultArms.{chosen}
use Rattle.callfile.proofs.Sofar.{sofar_no, sofar_on, sofar_done, sofar_end}
use Rattle.callfile.proofs.scripts.read_lines.Goals as goal

pub returns-in-Err : goal.returns-in-Err
returns-in-Err c =
    let n = c.args.n in
    let i = c.loop.counter in
    let m : n - i ≡ suc (n - (i + 1)) = omega (arith, c.loop-test.true) in
    sofar_end _ _ (sofar_no (vec_items c.loop.lines) (vec_items c.loop.calls) (n - i) c.loop.reader _ c.loop.invariant (n - (i + 1)) m c.in-Err.fault c.in-Err.ensures.told)

pub loop-preserved : goal.loop-preserved
loop-preserved c =
    let n = c.args.n in
    let i = c.loop.counter in
    let m : n - i ≡ suc (n - (i + 1)) = omega (arith, c.loop-test.true) in
    let ls = chosen _ _ _ _ c.push.ensures.items (ap is_ok c.in_ok-push.was) in
    let cs = chosen _ _ _ _ c.push-in-loop.ensures.items (ap is_ok c.in_ok-push-2.was) in
    sofar_on (vec_items c.loop.lines) (vec_items c.loop.calls) (n - i) c.loop.reader _ c.loop.invariant (n - (i + 1)) m c.read_call.new.reader _ _ _ c.in-Ok.ensures.told ls cs

pub returns : goal.returns
returns c =
    let n = c.args.n in
    let i = c.loop.counter in
    let z : n - i ≡ 0 = omega (arith, c.loop-test.false) in
    sofar_end _ _ (sofar_done (vec_items c.loop.lines) (vec_items c.loop.calls) (n - i) c.loop.reader _ c.loop.invariant c.past_end.result c.past_end.ensures z)
