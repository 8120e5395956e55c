use Rattle.std.proofs.Common.{string_bytes, arith}
use Rattle.std.proofs.lemmas.List.{length-map}
use Rattle.book.specs.Bids.{vacant}
use Rattle.book.specs.Views.{places, place_of}
use Rattle.report.specs.Final.{row_text}
use Rattle.report.proofs.Steps.{one_more}
use Rattle.report.proofs.tables.FinalDay.push_rows.Goals as goal

pub loop-row-preserved : goal.loop-row-preserved
unfolding places
loop-row-preserved c = one_more (row_text c.args.shares.now) (places c.args.self.now.rows.now) c.loop-row.row vacant (string_bytes c.loop-row.out) (string_bytes c.push_row.new.out) _ (omega (arith, length-map c.args.self.now.rows.now place_of)) c.loop-row.invariant c.in_ok-push_row.ensures
