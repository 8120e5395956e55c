-- A set of hours that is not empty has an hour.
use Rattle.std.proofs.Common.{◌≡◌, ℕ, zero, suc, ◌*◌, ◌/◌, ◌%◌, ◌^◌, ◌<◌, ◌≤◌, true, cond, eqb, ap, inl, inr, pow-suc, arith, pow_pos}
use Rattle.std.proofs.lemmas.Nat.{div_below, le-div}
use Rattle.std.proofs.lemmas.Bool.{cases_lt}
use Rattle.clearing.specs.Upto.{upto}
use Rattle.clearing.specs.Hours.{in_hour, over_hours}

pub some_hour : (n hours : ℕ) → 1 ≤ hours → hours < 2 ^ n → 1 ≤ over_hours hours (λ _. 1) n
unfolding upto
some_hour zero hours p l = absurd (omega arith)
some_hour (suc n) hours p l = elim (cases_lt hours (2 ^ n)) [
  | inl s ↦ omega (arith, some_hour n hours p s)
  | inr g ↦
      let pos : 0 < 2 ^ n = pow_pos n in
      let double : 2 ^ suc n ≡ 2 ^ n * 2 = pow-suc 2 n in
      let low : 1 ≤ hours / 2 ^ n = le-div 1 hours (2 ^ n) pos (omega arith) in
      let high : hours / 2 ^ n < 2 = div_below hours (2 ^ n) 2 pos (omega arith) in
      let one : hours / 2 ^ n ≡ 1 = omega arith in
      let digit : in_hour hours n ≡ true = ap (λ q. eqb (q % 2) 1) one in
      omega (arith, ap {B = ℕ} (λ b. cond b 1 0) digit)
]
