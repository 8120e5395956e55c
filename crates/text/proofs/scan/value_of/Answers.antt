use Rattle.std.proofs.Common.{◌≡◌, ◌∙◌, ◌+◌, ◌*◌, ◌-◌, min, refl, rules}
use Rattle.std.specs.List.{fold}
use Rattle.std.proofs.iter.runs.Made.{chains}
use Rattle.text.proofs.Scans.{capped}
use Rattle.text.proofs.scan.value_of.Goals as goal

pub returns : goal.returns
returns c =
    let p : c.fold.result ≡ fold (λ n d. min 18446744073709551615 (min 18446744073709551615 (n * 10) + (d - 48))) 0 c.args.digits.now = search (rules, chains) in
    p ∙ capped 0 0 c.args.digits.now refl
