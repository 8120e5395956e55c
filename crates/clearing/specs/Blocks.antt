-- The block orders among the places of the order table.
use Rattle.std.specs.Prelude.{ℕ, ◌-◌, Bool, true, cond, ◌&&◌, List, [], ◌∷◌, map, Some, None, Option, nat_le, nat_lt}
use Rattle.curves.specs.Points.{Point}
use Rattle.curves.specs.Offers.{Form, flat, stairs, slopes}
use Rattle.book.specs.Bids.{Bid, Place, vacant, held}
use Rattle.book.specs.HourSets.{hours_at}
use Rattle.clearing.specs.declared.blocks.Block.{Block}

-- the volume and the limit of a block order: a step order of one pair has its tick as limit
abbrev pub single_terms : List Point → Option (ℕ × Option ℕ)
single_terms [] = None
single_terms (p ∷ []) = Some (p.volume, Some p.tick)
single_terms (p ∷ q ∷ ps) = None

-- a market order has no limit; no other form makes a block order
abbrev pub block_terms : Form → Option (ℕ × Option ℕ)
block_terms (flat v) = Some (v, None)
block_terms (stairs ps) = single_terms ps
block_terms (slopes ps) = None

abbrev pub block_with : Bid → ℕ → Option (ℕ × Option ℕ) → Option Block
block_with b hours None = None
block_with b hours (Some x) = Some (record { side = b.offer.side; hours = hours; volume = x.0; limit = x.1; stamp = b.stamp })

abbrev pub block_in : Bid → Option ℕ → Option Block
block_in b None = None
block_in b (Some hours) = block_with b hours (block_terms b.offer.form)

-- product 24 + k is block k, whose hours are the k-th set
abbrev pub block_of : List ℕ → Place → Option Block
block_of sets vacant = None
block_of sets (held b) = cond (nat_lt 24 b.product) (block_in b (hours_at sets (b.product - 25))) None

unfoldable pub blocks_of : List ℕ → List Place → List (Option Block)
blocks_of sets ps = map (block_of sets) ps

-- no block asks for more than an order may
abbrev pub small_block : Option Block → Bool
small_block None = true
small_block (Some b) = nat_le b.volume 100000

unfoldable pub small_blocks : List (Option Block) → Bool
small_blocks [] = true
small_blocks (o ∷ bs) = small_block o && small_blocks bs
