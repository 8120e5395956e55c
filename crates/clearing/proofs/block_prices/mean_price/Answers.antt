use Rattle.std.proofs.Common.{◌+◌, ◌*◌, ◌/◌, ◌<◌, ◌≤◌, arith}
use Rattle.std.proofs.lemmas.Nat.{div_below}
use Rattle.clearing.specs.Hours.{hour_count}
use Rattle.clearing.proofs.Hourly.{some_hour}
use Rattle.clearing.proofs.block_prices.mean_price.Goals as goal

pub mean-requires : goal.mean-requires
mean-requires c =
    let some : 1 ≤ hour_count c.args.hours = some_hour 24 c.args.hours c.requires.some (omega arith) in
    record { some = omega arith; few = omega arith; fits = omega (arith, c.price_sum-sum.ensures.few) }

pub overflow_cast-result : goal.overflow_cast-result
overflow_cast-result c =
    let n = c.from.result in
    let sum = c.price_sum-sum.result in
    let some : 1 ≤ hour_count c.args.hours = some_hour 24 c.args.hours c.requires.some (omega arith) in
    let one : 1 ≤ n = omega arith in
    let few : sum ≤ n * 4294967295 = omega (arith, c.price_sum-sum.ensures.few) in
    let below : (2 * sum + n) / (2 * n) < 4294967296 = div_below (2 * sum + n) (2 * n) 4294967296 (omega arith) (omega arith) in
    omega (arith, c.mean.ensures, below)
