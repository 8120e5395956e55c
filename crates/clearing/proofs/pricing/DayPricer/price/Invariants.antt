use Rattle.book.specs.Views.{places}
use Rattle.clearing.specs.Clearing.{ticks, result_of}
use Rattle.clearing.proofs.Tabled.{Filled}
use Rattle.clearing.proofs.pricing.DayPricer.price.Given as goal

abbrev pub invariant-loop-index : goal.invariant-loop-index
invariant-loop-index l = Filled 24 (result_of (places l.self.rows.now) l.self.blocks.now (ticks l.self.references.now) l.standing) l.results l.index
