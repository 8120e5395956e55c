-- Kinds of claims in one ranking: each claim of a kind goes before each of the kind served next.
use Rattle.std.specs.Prelude.{ℕ, Bool, true, false, ◌⊎◌, List, ◌++◌, map}
use Rattle.std.proofs.Common.{inl, inr}

-- a kind of claims: what each asks, its stamp, and which of two goes before the other
pub record Kind (C : Type 0) : Type 0 where
  pub asks : C → ℕ
  pub stamp : C → ℕ
  pub before : C → C → Bool

abbrev pub kind_of : {C : Type 0} → (C → ℕ) → (C → ℕ) → (C → C → Bool) → Kind C
kind_of f g p = record { asks = f; stamp = g; before = p }

abbrev pub either : {A B : Type 0} → (A → ℕ) → (B → ℕ) → A ⊎ B → ℕ
either f g (inl a) = f a
either f g (inr b) = g b

abbrev pub kind_before : {A B : Type 0} → (A → A → Bool) → (B → B → Bool) → A ⊎ B → A ⊎ B → Bool
kind_before p q (inl a) (inl b) = p a b
kind_before p q (inl a) (inr b) = true
kind_before p q (inr a) (inl b) = false
kind_before p q (inr a) (inr b) = q a b

-- one kind, then another, as one
abbrev pub and_then : {A B : Type 0} → Kind A → Kind B → Kind (A ⊎ B)
and_then a b = kind_of (either a.asks b.asks) (either a.stamp b.stamp) (kind_before a.before b.before)

-- the claims of two kinds in one list
abbrev pub joint : {A B : Type 0} → List A → List B → List (A ⊎ B)
joint xs ys = map inl xs ++ map inr ys
