-- The block orders collected from the rows: a block of a row, and its volume.
use Rattle.std.proofs.Common.{◌≡◌, ℕ, zero, suc, ◌-◌, ◌≤◌, Bool, true, false, cond, ltb, leb, List, [], ◌∷◌, get_or, take, Some, None, Option, refl, arith}
use Rattle.std.proofs.lemmas.Bool.{le-leb, leb-true, and_from, and_parts}
use Rattle.curves.specs.declared.pairs.Pair.{Pair}
use Rattle.curves.specs.declared.orders.Order.{Order}
use Rattle.curves.specs.declared.orders.Order.TheVariants.{Market, Step, Linear}
use Rattle.curves.specs.Orders.{offer_of}
use Rattle.curves.specs.Views.{points}
use Rattle.book.specs.declared.entries.Entry.{Entry}
use Rattle.book.specs.Bids.{Bid}
use Rattle.book.specs.HourSets.{hours_at}
use Rattle.book.specs.Views.{entry_of, place_of, places}
use Rattle.allocation.specs.Places.{place_number}
use Rattle.clearing.specs.declared.blocks.Block.{Block}
use Rattle.clearing.specs.Blocks.{single_terms, block_terms, block_with, block_in, block_of, blocks_of, small_block, small_blocks}

abbrev small_terms : Option (ℕ × Option ℕ) → Bool
small_terms None = true
small_terms (Some x) = leb x.0 100000

single_small : (cs : List Pair) → small_terms (single_terms (points cs)) ≡ true
single_small [] = refl
single_small (c ∷ []) = le-leb _ _ c.few
single_small (c ∷ d ∷ cs) = refl

terms_small : (o : Order) → small_terms (block_terms (offer_of o).form) ≡ true
terms_small (Market m) = le-leb _ _ m.few
terms_small (Step s) = single_small (take s.chain.count s.chain.pairs)
terms_small (Linear l) = refl

with_small : (b : Bid) (hours : ℕ) (x : Option (ℕ × Option ℕ)) → small_terms x ≡ true → small_block (block_with b hours x) ≡ true
with_small b hours None h = refl
with_small b hours (Some x) h = h

in_small : (q : Bool) (b : Bid) (o : Option ℕ) → small_terms (block_terms b.offer.form) ≡ true → small_block (cond q (block_in b o) None) ≡ true
in_small false b o h = refl
in_small true b None h = refl
in_small true b (Some hours) h = with_small b hours (block_terms b.offer.form) h

pub block_small : (sets : List ℕ) (r : Option Entry) → small_block (block_of sets (place_of r)) ≡ true
block_small sets None = refl
block_small sets (Some e) = in_small (ltb 24 e.product) (entry_of e) (hours_at sets (e.product - 25)) (terms_small e.order)

pub blocks_small : (sets : List ℕ) (rows : List (Option Entry)) → small_blocks (blocks_of sets (places rows)) ≡ true
unfolding small_blocks blocks_of places
blocks_small sets [] = refl
blocks_small sets (r ∷ rs) = and_from _ _ (block_small sets r) (blocks_small sets rs)

small_volume : (o : Option Block) → small_block o ≡ true → place_number (λ (b : Block). b.volume) o ≤ 100000
small_volume None h = omega arith
small_volume (Some b) h = leb-true _ _ h

pub small_at : (bs : List (Option Block)) (k : ℕ) → small_blocks bs ≡ true → place_number (λ (b : Block). b.volume) (get_or bs k None) ≤ 100000
unfolding small_blocks
small_at [] k h = omega arith
small_at (o ∷ bs) zero h = small_volume o (and_parts (small_block o) (small_blocks bs) h).0
small_at (o ∷ bs) (suc k) h = small_at bs k (and_parts (small_block o) (small_blocks bs) h).1
