-- What a ranking of claims is, and the step of which rankings are made.
use Rattle.std.specs.Prelude.{◌≡◌, ℕ, Bool, true, false, cond, not, ◌≢◌, nat_lt}

-- No claim goes before itself; going before carries along a chain; of two claims with different stamps exactly one goes
-- before the other.
pub record RankLaws {C : Type 0} (stamp : C → ℕ) (before : C → C → Bool) : Type 0 where
  pub irreflexive : (a : C) → before a a ≡ false
  pub transitive : (a b c : C) → before a b ≡ true → before b c ≡ true → before a c ≡ true
  pub decided : (a b : C) → (stamp a ≢ stamp b) → before a b ≡ not (before b a)

-- the larger key goes first; at equal keys the ranking beneath decides
abbrev pub larger_first : ℕ → ℕ → Bool → Bool
larger_first a b beneath = cond (nat_lt b a) true (cond (nat_lt a b) false beneath)
