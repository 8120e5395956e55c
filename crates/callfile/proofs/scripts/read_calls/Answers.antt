use Rattle.std.proofs.Common.{◌≡◌, length, vec_items, sym, ap, ◌∙◌, subst}
use Rattle.std.proofs.lemmas.Result.{IfOk-weaker}
use Rattle.text.specs.Tokens.{ahead}
use Rattle.callfile.specs.Scripts.{Script, script_of, calls_of, Scripted}
use Rattle.callfile.proofs.Sofar.{sofar_unread, even, counted, uncounted}
use Rattle.callfile.proofs.scripts.read_calls.Goals as goal

pub returns-in-Ok : goal.returns-in-Ok
returns-in-Ok c =
    let s = c.args.reader.now in
    let t = c.read_count.new.reader in
    let n = c.in-Ok.n in
    let now = script_of n t.at (ahead t) in
    let r = c.read_lines.result in
    record {
      script = IfOk-weaker r (λ x. Scripted x now) (λ x. Scripted x (calls_of s.at (ahead s))) (λ x h. subst (λ (z : Script). Scripted x z) (counted s t n c.in-Ok.ensures.told) h) c.read_lines.ensures;
      even = IfOk-weaker r (λ x. Scripted x now) (λ x. length (vec_items x.lines) ≡ length (vec_items x.calls)) (λ x h. even x now h) c.read_lines.ensures;
    }

pub returns-in-Err : goal.returns-in-Err
returns-in-Err c =
    let s = c.args.reader.now in
    let ls = c.new.ensures.items in
    let cs = c.new-in-Err.ensures.items in
    record {
      script = sofar_unread _ _ (uncounted s c.in-Err.fault c.in-Err.ensures.told) ls cs;
      even = ap length ls ∙ sym (ap length cs);
    }
