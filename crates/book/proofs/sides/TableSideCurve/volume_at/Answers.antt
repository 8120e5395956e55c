use Rattle.std.proofs.Common.{rules, arith, ◌^◌}
use Rattle.std.proofs.lemmas.Iterator.{YieldsList-from_slice}
use Rattle.std.proofs.lemmas.Iterator.Adapters.{fits_from_length, at_most_from_yields_List}
use Rattle.book.proofs.sides.TableSideCurve.volume_at.Goals as goal

-- at most 256 rows, each with an order of at most 100,000
pub sum-requires-clause-fits : goal.sum-requires-clause-fits
sum-requires-clause-fits c =
    fits_from_length _ _ 256 (2 ^ 64) (at_most_from_yields_List (YieldsList-from_slice c.args.self.now.rows.now cc) c.args.self.now.few) c.map.ensures.closure (omega arith) (λ x r q k. search rules)
