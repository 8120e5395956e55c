use Rattle.std.proofs.Common.{[], ◌∷◌, Ok, sym, ◌∙◌}
use Rattle.text.specs.Closing.{close_byte}
use Rattle.text.specs.Items.{keyword}
use Rattle.text.specs.Tokens.{seen, word_seen, told}
use Rattle.text.proofs.Steps.{looks_word, alone_told, item_on, only_tt}
use Rattle.text.proofs.reader.Reader.keyword.Goals as goal

pub returns-clause-told : goal.returns-clause-told
returns-clause-told c =
    let n = c.next.ensures in
    let w = c.args.word.now in
    let s = c.args.self.now in
    let t = c.next.new.self in
    let o = told c.close.result c.close.new.self in
    sym (only_tt o)
    ∙ item_on (keyword w) (close_byte c.args.end) c.args.line s t (tt {0}) o
    (alone_told (keyword w) (word_seen (λ _. w) (tt ∷ [])) (looks_word (λ _. w) (tt ∷ [])) c.args.line s t (seen c.next.result.token) c.next.result.place (Ok (tt {0})) c.in_ok-keyword.ensures n.token n.place n.at n.input)
    c.close.ensures.told
