-- A read of an hour's result is `result_at`.
use Rattle.std.proofs.Common.{◌≡◌, ℕ, ◌<◌, List, length, get_or}
use Rattle.std.proofs.lemmas.List.{get_or_default}
use Rattle.curves.specs.declared.sides.Side.TheVariants.{Buy}
use Rattle.clearing.specs.declared.results.HourResult.{HourResult}
use Rattle.clearing.specs.Results.{no_result, result_at}

pub read_at : (rs : List HourResult) (h : ℕ) → h < length rs → get_or rs h (record { price = 0; executed = 0; surplus = 0; side = Buy }) ≡ result_at rs h
read_at rs h l = get_or_default rs h _ no_result l
