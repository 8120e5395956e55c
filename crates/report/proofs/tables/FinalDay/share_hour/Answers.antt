use Rattle.std.proofs.Common.{◌≡◌, ◌+◌, ◌-◌, false, length, get_or, is_ok, refl, ap, ◌∙◌, arith, rules}
use Rattle.std.proofs.lemmas.List.{get_or_default}
use Rattle.std.proofs.lemmas.Result.{MatchResult-at_ok}
use Rattle.curves.specs.declared.sides.Side.TheVariants.{Buy}
use Rattle.book.specs.Shown.{bad_hour}
use Rattle.book.specs.Views.{places, sets_of}
use Rattle.clearing.specs.declared.results.HourResult.{HourResult}
use Rattle.clearing.specs.Results.{no_result}
use Rattle.clearing.specs.Sharing.{hour_shares}
use Rattle.report.specs.Final.{shares_in}
use Rattle.report.proofs.Checked.{priced_at, shares_granted}
use Rattle.report.proofs.tables.FinalDay.share_hour.Goals as goal

-- what the code reads past the end of the results
abbrev unread : HourResult
unread = record { price = 0; executed = 0; surplus = 0; side = Buy }

pub unwrap-requires : goal.unwrap-requires
unwrap-requires c =
    let within : bad_hour (c.args.hour + 1) ≡ false = search rules in
    let priced = priced_at c.args.self.now.hours.now c.args.hour unread c.args.self.now.priced (omega arith) in
    ap is_ok (c.hour_shares.ensures.answer ∙ shares_granted (length c.args.self.now.rows.now) (length c.args.self.now.marks.now) 256 (c.args.hour + 1) (get_or c.args.self.now.hours.now c.args.hour unread).price (omega arith) (omega arith) refl within priced)

pub returns : goal.returns
unfolding shares_in
returns c =
    let day = c.args.self.now in
    let hour : c.args.hour + 1 - 1 ≡ c.args.hour = omega arith in
    let result = get_or_default day.hours.now c.args.hour unread no_result (omega arith) in
    MatchResult-at_ok _ _ c.unwrap.result c.unwrap.ensures c.hour_shares.ensures.each ∙ (λ j. hour_shares (places day.rows.now) (sets_of day.blocks.now) day.marks.now (hour j) (result j) (c.filled_in-filled.ensures j))
