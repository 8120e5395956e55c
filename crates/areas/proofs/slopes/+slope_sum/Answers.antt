use Rattle.std.proofs.Common.{◌≡◌, ℕ, ◌+◌, ◌*◌, ◌/◌, ◌%◌, ◌<◌, ◌≤◌, sym, ap, ◌∙◌, div-le_self, arith}
use Rattle.std.proofs.lemmas.Nat.{mul-le, mod_below}
use Rattle.areas.specs.Slope.{slope_sum, triangle}
use Rattle.areas.proofs.Euclid.{triangle_few, turn_facts, slope_else, slope_then, slope_fits}
use Rattle.areas.proofs.slopes.+slope_sum.Goals as goal

pub overflow_mul-whole : goal.overflow_mul-whole
overflow_mul-whole t c =
    let n = c.args.n in
    let a = c.args.a in
    let m = c.args.m in
    let q : a / m ≤ 300000 = omega (arith, div-le_self a m, c.requires.a_few) in
    omega (arith, mul-le c.triangular.result (a / m) 90000000000 300000 (omega (arith, c.triangular.ensures, triangle_few n c.requires.n_few)) q)

pub overflow_add-whole : goal.overflow_add-whole
overflow_add-whole t c =
    let n = c.args.n in
    let a = c.args.a in
    let b = c.args.b in
    let m = c.args.m in
    let q : a / m ≤ 300000 = omega (arith, div-le_self a m, c.requires.a_few) in
    let q' : b / m ≤ 300000 = omega (arith, div-le_self b m, c.requires.b_few) in
    omega (arith, mul-le c.triangular.result (a / m) 90000000000 300000 (omega (arith, c.triangular.ensures, triangle_few n c.requires.n_few)) q, mul-le n (b / m) 300000 300000 c.requires.n_few q')

-- whole and rest are the sum
split : (n m a b w r : ℕ) → 0 < m → m ≤ a % m * n + b % m → w ≡ triangle n → r ≡ slope_sum ((a % m * n + b % m) / m) (a % m) m ((a % m * n + b % m) % m) → w * (a / m) + n * (b / m) + r ≡ slope_sum n m a b
split n m a b w r some top ew er =
    ap (λ (x : ℕ). x * (a / m) + n * (b / m) + r) ew ∙ (ap (λ (x : ℕ). triangle n * (a / m) + n * (b / m) + x) er ∙ sym (slope_else n m a b some top))

pub slope_sum-requires : goal.slope_sum-requires
slope_sum-requires t c =
    let n = c.args.n in
    let m = c.args.m in
    let some = c.requires.some in
    let s : ℕ = c.args.a % m in
    let r : ℕ = c.args.b % m in
    let sm : s < m = mod_below c.args.a m some in
    let rm : r < m = mod_below c.args.b m some in
    let f = turn_facts n m s r sm rm c.if-top-m.false in
    let cm : (s * n + r) % m < m = mod_below (s * n + r) m some in
    (omega (arith, c.decreases), (f.0, (omega (arith, c.requires.m_few), (omega (arith, f.1, c.requires.n_few), (c.requires.m_few, omega (arith, c.requires.m_few))))))

pub overflow_add-result : goal.overflow_add-result
overflow_add-result t c =
    let pre = c.requires in
    let e = split c.args.n c.args.m c.args.a c.args.b c.triangular.result c.slope_sum.result pre.some c.if-top-m.false c.triangular.ensures c.slope_sum.ensures in
    omega (arith, e, slope_fits c.args.n c.args.m c.args.a c.args.b pre.n_few pre.a_few pre.b_few)

pub returns-then-top-m : goal.returns-then-top-m
returns-then-top-m t c =
    let n = c.args.n in
    let m = c.args.m in
    let a = c.args.a in
    let b = c.args.b in
    ap (λ (x : ℕ). x * (a / m) + n * (b / m)) c.triangular.ensures ∙ sym (slope_then n m a b c.requires.some c.if-top-m.true)

pub returns-else-top-m : goal.returns-else-top-m
returns-else-top-m t c = split c.args.n c.args.m c.args.a c.args.b c.triangular.result c.slope_sum.result c.requires.some c.if-top-m.false c.triangular.ensures c.slope_sum.ensures
