-- A ranking by a larger key first over any ranking is a ranking; so is the one by lower stamp.
use Rattle.std.specs.Prelude.{◌≡◌, ℕ, Bool, true, false, not, Some, None, Option, ◌≢◌, nat_lt, refl}
use Rattle.std.proofs.Common.{sym, arith}
use Rattle.std.proofs.lemmas.Bool.Decides.{nat_tests}
use Rattle.allocation.specs.Rankings.{RankLaws, larger_first}
use Rattle.allocation.specs.Places.{place_number, place_before}
use Rattle.std.proofs.lemmas.Bool.{true≢false}

same : (a : ℕ) (p : Bool) → p ≡ false → larger_first a a p ≡ false
same a p h = grind (arith, nat_tests)

chain : (a b c : ℕ) (p q r : Bool) → (p ≡ true → q ≡ true → r ≡ true) → larger_first a b p ≡ true → larger_first b c q ≡ true → larger_first a c r ≡ true
chain a b c p q r next h k = grind (arith, nat_tests)

one : (a b : ℕ) (p q : Bool) → p ≡ not q → larger_first a b p ≡ not (larger_first b a q)
one a b p q h = grind (arith, nat_tests)

pub by_stamp : {C : Type 0} (stamp : C → ℕ) → RankLaws stamp (λ a b. nat_lt (stamp a) (stamp b))
by_stamp stamp = record {
  irreflexive = λ a. grind (arith, nat_tests);
  transitive = λ a b c h k. grind (arith, nat_tests);
  decided = λ a b ne. grind (arith, nat_tests);
}

pub by_key : {C : Type 0} {stamp : C → ℕ} (key : C → ℕ) {beneath : C → C → Bool} → RankLaws stamp beneath → RankLaws stamp (λ a b. larger_first (key a) (key b) (beneath a b))
by_key key {beneath} laws = record {
  irreflexive = λ a. same (key a) (beneath a a) (laws.irreflexive a);
  transitive = λ a b c. chain (key a) (key b) (key c) (beneath a b) (beneath b c) (beneath a c) (laws.transitive a b c);
  decided = λ a b ne. one (key a) (key b) (beneath a b) (beneath b a) (laws.decided a b ne);
}

-- so is the one over the places of a table
pub by_place : {C : Type 0} {stamp : C → ℕ} {before : C → C → Bool} → RankLaws stamp before → RankLaws (place_number stamp) (place_before before)
by_place {C} {stamp} {before} laws = record { irreflexive = never; transitive = carries; decided = either }
  where
    never : (a : Option C) → place_before before a a ≡ false
    never None = refl
    never (Some a) = laws.irreflexive a

    carries : (a b c : Option C) → place_before before a b ≡ true → place_before before b c ≡ true → place_before before a c ≡ true
    carries None b c h k = h
    carries (Some a) None c h k = absurd (true≢false (sym k))
    carries (Some a) (Some b) None h k = refl
    carries (Some a) (Some b) (Some c) h k = laws.transitive a b c h k

    either : (a b : Option C) → (place_number stamp a ≢ place_number stamp b) → place_before before a b ≡ not (place_before before b a)
    either None None ne = absurd (ne refl)
    either None (Some b) ne = refl
    either (Some a) None ne = refl
    either (Some a) (Some b) ne = laws.decided a b ne
