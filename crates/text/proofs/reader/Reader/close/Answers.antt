use Rattle.std.proofs.Common.{◌≡◌, true, sym, ap, ◌∙◌}
use Rattle.text.specs.Closing.{closes}
use Rattle.text.specs.Tokens.{seen, token_of, ahead}
use Rattle.text.proofs.Steps.{closed_there}
use Rattle.text.proofs.reader.Reader.close.Goals as goal

pub returns-in-Space-Space-clause-told : goal.returns-in-Space-Space-clause-told
returns-in-Space-Space-clause-told c =
    let n = c.next-next.ensures in
    let m = c.in-Space-Space in
    let s = c.args.self.now in
    let there : closes c.args.end (token_of (ahead s)) ≡ true = ap (closes c.args.end) (sym {b = token_of (ahead s)} n.token) ∙ (λ i. closes (m.is-0 i) (seen (m.is-1 i))) in
    closed_there c.args.end c.args.line s c.next-next.new.self there n.at n.input

pub returns-in-Space-Space-2-clause-told : goal.returns-in-Space-Space-2-clause-told
returns-in-Space-Space-2-clause-told c =
    let n = c.next-next.ensures in
    let m = c.in-Space-Space in
    let s = c.args.self.now in
    let there : closes c.args.end (token_of (ahead s)) ≡ true = ap (closes c.args.end) (sym {b = token_of (ahead s)} n.token) ∙ (λ i. closes (m.is-0 i) (seen (m.is-1 i))) in
    closed_there c.args.end c.args.line s c.next-next.new.self there n.at n.input
