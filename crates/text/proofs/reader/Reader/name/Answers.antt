use Rattle.text.specs.Items.{word}
use Rattle.text.specs.Tokens.{seen, word_seen}
use Rattle.text.proofs.Steps.{looks_word, alone_told}
use Rattle.text.proofs.reader.Reader.name.Goals as goal

pub returns-clause-told : goal.returns-clause-told
returns-clause-told g c =
    let n = c.next.ensures in
    let W = g.W.Named in
    alone_told (word W.name W.all) (word_seen W.name W.all) (looks_word W.name W.all) c.args.line c.args.self.now c.next.new.self (seen c.next.result.token) c.next.result.place c.name.result c.name.ensures n.token n.place n.at n.input
