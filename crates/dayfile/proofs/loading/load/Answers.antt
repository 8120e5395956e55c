use Rattle.std.proofs.Common.{◌≡◌, false, length, replicate, sym, ap, ◌∙◌, rules}
use Rattle.book.specs.Bids.{vacant}
use Rattle.book.specs.Views.{places}
use Rattle.book.proofs.Placed.{placed_empty}
use Rattle.text.specs.Tokens.{ahead}
use Rattle.dayfile.specs.Loading.{right_lengths, load_head, load_places}
use Rattle.dayfile.proofs.Fitting.{loads_its_text}
use Rattle.dayfile.proofs.Openings.{places_empty, day_headed, day_left, fitting, unfitting, lengths_fit}
use Rattle.dayfile.proofs.loading.load.Goals as goal

pub returns-then-rows-ne256-clause-rows : goal.returns-then-rows-ne256-clause-rows
returns-then-rows-ne256-clause-rows g c =
    let n = length c.args.rows.now in
    let s = c.args.reader.now in
    let no : right_lengths n (length c.args.hours.now) (length c.args.marks.now) (length c.args.posts.now) ≡ false = search rules in
    ap places c.clear.ensures ∙ placed_empty n ∙ ap (load_places n) (unfitting _ s.at (ahead s) no)

pub returns-then-rows-ne256-clause-text : goal.returns-then-rows-ne256-clause-text
returns-then-rows-ne256-clause-text g c = λ l p bs d q cs e. loads_its_text l p bs d q cs e

pub read_day-opened-requires-clause-empty : goal.read_day-opened-requires-clause-empty
read_day-opened-requires-clause-empty g c =
    places_empty c.clear.new.table (length c.args.rows.now) c.clear.ensures (sym c.clear.auto.table ∙ c.if-rows-ne256.false)

pub returns-then-is_err-clause-rows : goal.returns-then-is_err-clause-rows
returns-then-is_err-clause-rows g c =
    let n = length c.args.rows.now in
    let s = c.args.reader.now in
    let yes = lengths_fit n (length c.args.hours.now) (length c.args.marks.now) (length c.args.posts.now)
    (sym c.clear.auto.table ∙ c.if-rows-ne256.false) (sym c.clear-2.auto.table ∙ c.if-hours-ne24.false) (sym c.clear-3.auto.table ∙ c.if-marks-ne256.false) (sym c.clear-4.auto.table ∙ c.if-posts-ne128.false) in
    ap places c.undo.ensures.rows ∙ placed_empty _ ∙ ap (λ k. replicate k vacant) (c.read_day-opened.auto.rows ∙ c.clear.auto.table)
    ∙ day_left n s.at (ahead s) c.read_day-opened.result (places c.read_day-opened.new.rows) c.read_day-opened.new.reader (sym c.is_err.ensures.value ∙ c.if-is_err.true) c.read_day-opened.ensures.told
    ∙ ap (load_places n) (fitting _ s.at (ahead s) yes)

pub returns-then-is_err-clause-text : goal.returns-then-is_err-clause-text
returns-then-is_err-clause-text g c = λ l p bs d q cs e. loads_its_text l p bs d q cs e

pub returns-else-is_err-clause-answer : goal.returns-else-is_err-clause-answer
returns-else-is_err-clause-answer g c =
    let s = c.args.reader.now in
    let yes = lengths_fit (length c.args.rows.now) (length c.args.hours.now) (length c.args.marks.now) (length c.args.posts.now)
    (sym c.clear.auto.table ∙ c.if-rows-ne256.false) (sym c.clear-2.auto.table ∙ c.if-hours-ne24.false) (sym c.clear-3.auto.table ∙ c.if-marks-ne256.false) (sym c.clear-4.auto.table ∙ c.if-posts-ne128.false) in
    day_headed (length c.args.rows.now) s.at (ahead s) c.read_day-opened.result (places c.read_day-opened.new.rows) c.read_day-opened.new.reader c.read_day-opened.ensures.told
    ∙ ap load_head (fitting _ s.at (ahead s) yes)

pub returns-else-is_err-clause-text : goal.returns-else-is_err-clause-text
returns-else-is_err-clause-text g c = λ l p bs d q cs e. loads_its_text l p bs d q cs e
