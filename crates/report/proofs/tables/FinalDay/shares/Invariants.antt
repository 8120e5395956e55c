use Rattle.book.specs.Views.{places, sets_of}
use Rattle.clearing.proofs.Tabled.{Filled}
use Rattle.report.specs.Final.{shares_in}
use Rattle.report.proofs.tables.FinalDay.shares.Given as goal

abbrev pub invariant-loop-hour : goal.invariant-loop-hour
invariant-loop-hour l = Filled 24 (shares_in (places l.self.rows.now) (sets_of l.self.blocks.now) l.self.marks.now l.self.hours.now l.self.posted) l.table-items l.hour
