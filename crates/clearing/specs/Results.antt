-- The results of the hours of a day, read by hour from 0.
use Rattle.std.specs.Prelude.{ℕ, List, slice_index_or}
use Rattle.curves.specs.declared.sides.Side.TheVariants.{Sell}
use Rattle.clearing.specs.declared.results.HourResult.{HourResult}

-- an hour without a result
abbrev pub no_result : HourResult
no_result = record { price = 0; executed = 0; surplus = 0; side = Sell }

abbrev pub result_at : List HourResult → ℕ → HourResult
result_at rs h = slice_index_or rs h no_result
