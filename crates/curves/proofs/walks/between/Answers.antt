use Rattle.std.proofs.Common.{ℕ, ◌+◌, ◌*◌, ◌≤◌, arith}
use Rattle.std.proofs.lemmas.Nat.{mul-le}
use Rattle.curves.proofs.walks.between.Goals as goal

-- both products are small
weighed : (v w x y : ℕ) → v ≤ 100000 → w ≤ 300000 → x ≤ 100000 → y ≤ 300000 → v * w + x * y ≤ 60000000000
weighed v w x y a b c d = omega (arith, mul-le v w 100000 300000 a b, mul-le x y 100000 300000 c d)

pub overflow_add-falling : goal.overflow_add-falling
overflow_add-falling c = omega (arith, weighed c.from.result c.from-2.result c.from-3.result c.from-4.result (omega arith) (omega arith) (omega arith) (omega arith))

pub round-requires : goal.round-requires
round-requires c =
    (omega arith, (omega arith, weighed c.from.result c.from-2.result c.from-3.result c.from-4.result (omega arith) (omega arith) (omega arith) (omega arith)))
