-- The view of a table: a row read, a row written, and the count of blocks.
use Rattle.std.proofs.Common.{◌≡◌, ℕ, zero, suc, ◌+◌, ◌<◌, ◌≤◌, cond, List, [], ◌∷◌, length, get_or, drop, set, sym, refl, ap, ◌∙◌, add-one, arith, Option, replicate, None}
use Rattle.std.specs.Prelude.{count_by}
use Rattle.std.proofs.Math.Seq.{drop-nil}
use Rattle.std.proofs.lemmas.List.{length-map, map-set, get_or-map, get_or_past}
use Rattle.std.proofs.lemmas.List.Sums.{sum_by-cons}
use Rattle.book.specs.declared.entries.Entry.{Entry}
use Rattle.book.specs.Bids.{Place, vacant}
use Rattle.book.specs.Places.{place_at, holds_block, blocks_held, others}
use Rattle.book.specs.Views.{place_of, places}

pub placed_set : (rows : List (Option Entry)) (r : ℕ) (x : Option Entry) → places (set rows r x) ≡ set (places rows) r (place_of x)
unfolding places
placed_set rows r x = map-set place_of rows r x

pub placed_at : (rows : List (Option Entry)) (r : ℕ) (x : Option Entry) → r < length rows → x ≡ get_or rows r x → place_at (places rows) r ≡ place_of x
unfolding places
placed_at rows r x h e = get_or-map place_of rows r x vacant h ∙ ap place_of (sym e)

pub placed_past : (rows : List (Option Entry)) (r : ℕ) → length rows ≤ r → place_at (places rows) r ≡ vacant
unfolding places
placed_past rows r h = get_or_past (places rows) r vacant (omega (arith, length-map rows place_of))

pub blocks_count : (rows : List (Option Entry)) → blocks_held (places rows) ≡ count_by (λ x. holds_block (place_of x)) rows
unfolding blocks_held places
blocks_count [] = refl
blocks_count (x ∷ rows) = omega (arith, blocks_count rows, sum_by-cons (λ (r : Option Entry). cond (holds_block (place_of r)) 1 0) x rows)

-- the blocks of the other places, and that of the place itself
pub others_and_own : (ps : List Place) (k : ℕ) → others k ps + cond (holds_block (place_at ps k)) 1 0 ≡ blocks_held ps
unfolding others blocks_held
others_and_own [] zero = refl
others_and_own [] (suc k) =
    let none : blocks_held (drop (suc k + 1) []) ≡ 0 = ap blocks_held (drop-nil (suc k + 1)) in
    omega (arith, none)
others_and_own (p ∷ ps) zero = omega arith
others_and_own (p ∷ ps) (suc k) =
    let rest : blocks_held (drop (suc k + 1) (p ∷ ps)) ≡ blocks_held (drop (k + 1) ps) =
    ap (λ (n : ℕ). blocks_held (drop n (p ∷ ps))) (add-one (suc k)) ∙ sym (ap (λ (n : ℕ). blocks_held (drop n ps)) (add-one k)) in
    omega (arith, rest, others_and_own ps k)

pub placed_length : (rows : List (Option Entry)) → length (places rows) ≡ length rows
unfolding places
placed_length rows = length-map rows place_of

-- a table of empty rows
pub placed_empty : (n : ℕ) → places (replicate n None) ≡ replicate n vacant
unfolding places
placed_empty zero = refl
placed_empty (suc n) = ap (λ (xs : List Place). vacant ∷ xs) (placed_empty n)
