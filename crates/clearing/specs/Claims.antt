-- The claims of the rows on one side of an hour, in one ranking: standing blocks, then market orders, then limit orders.
use Rattle.std.specs.Prelude.{ℕ, ◌+◌, Bool, true, false, cond, ◌&&◌, ◌⊎◌, List, length, Some, None, Option, ◌==◌, slice_index_or}
use Rattle.std.proofs.Common.{inl, inr}
use Rattle.allocation.specs.declared.block.BlockClaim.{BlockClaim}
use Rattle.allocation.specs.declared.market.MarketClaim.{MarketClaim}
use Rattle.allocation.specs.declared.limit.LimitClaim.{LimitClaim}
use Rattle.allocation.specs.Joint.{Kind, kind_of, and_then}
use Rattle.allocation.specs.Places.{place_number, place_before}
use Rattle.allocation.specs.Precedence.{block_before, market_before, limit_before}
use Rattle.areas.specs.Area.{offer_area}
use Rattle.curves.specs.declared.sides.Side.{Side}
use Rattle.curves.specs.Offers.{Form, flat, stairs, slopes, offer_shows}
use Rattle.book.specs.declared.entries.Entry.{Entry}
use Rattle.book.specs.Views.{entry_of}
use Rattle.book.specs.Bids.{Bid, Place, vacant, held}
use Rattle.book.specs.Places.{place_at}
use Rattle.book.specs.Shown.{same_side}
use Rattle.clearing.specs.declared.blocks.Block.{Block}
use Rattle.clearing.specs.declared.marks.Mark.{Mark}
use Rattle.clearing.specs.declared.marks.Mark.TheVariants.{Kept, Dropped}
use Rattle.clearing.specs.Hours.{in_hour}
use Rattle.clearing.specs.Verdicts.{claim_of}
use Rattle.clearing.specs.Blocks.{block_of}
use Rattle.clearing.specs.Clearing.{tabled}

abbrev pub HourClaim : Type 0
HourClaim = BlockClaim ⊎ (MarketClaim ⊎ LimitClaim)

abbrev pub place_kind : {C : Type 0} → Kind C → Kind (Option C)
place_kind k = kind_of (place_number k.asks) (place_number k.stamp) (place_before k.before)

abbrev pub block_kind : Kind BlockClaim
block_kind = kind_of (λ c. c.volume) (λ c. c.stamp) block_before

abbrev pub market_kind : Kind MarketClaim
market_kind = kind_of (λ c. c.volume) (λ c. c.stamp) market_before

abbrev pub limit_kind : Kind LimitClaim
limit_kind = kind_of (λ c. c.volume) (λ c. c.stamp) limit_before

-- blocks go before market orders, and these before limit orders
abbrev pub hour_kind : Kind HourClaim
hour_kind = and_then block_kind (and_then market_kind limit_kind)

-- a row, with a claim or without
abbrev pub row_kind : Kind (Option HourClaim)
row_kind = place_kind hour_kind

abbrev pub is_kept : Mark → Bool
is_kept Kept = true
is_kept (Dropped q cause) = false

-- the claim of a standing block in hour h, from 0, on a side
abbrev pub block_claim : Bool → Side → ℕ → Option Block → Option BlockClaim
block_claim f s h None = None
block_claim f s h (Some b) = cond (f && (same_side s b.side && in_hour b.hours h)) (Some (claim_of b)) None

-- what an order of the hour asks for is what it shows at the price
abbrev pub market_bid : Bid → Form → Option MarketClaim
market_bid b (flat v) = Some (record { volume = v; stamp = b.stamp })
market_bid b (stairs ps) = None
market_bid b (slopes ps) = None

abbrev pub limit_bid : Bid → ℕ → Form → Option LimitClaim
limit_bid b t (flat v) = None
limit_bid b t (stairs ps) = Some (record { area = offer_area b.offer t; volume = offer_shows b.offer t; stamp = b.stamp })
limit_bid b t (slopes ps) = Some (record { area = offer_area b.offer t; volume = offer_shows b.offer t; stamp = b.stamp })

-- is this bid for the hour, from 1, and on the side?
abbrev pub bids_in : ℕ → Side → Bid → Bool
bids_in hour side b = b.product == hour && same_side b.offer.side side

-- the entry of a row, if it is one of the hour and side
abbrev pub entry_in : ℕ → Side → Option Entry → Option Entry
entry_in hour side None = None
entry_in hour side (Some e) = cond (bids_in hour side (entry_of e)) (Some e) None

abbrev pub market_of : ℕ → Side → Place → Option MarketClaim
market_of hour side vacant = None
market_of hour side (held b) = cond (bids_in hour side b) (market_bid b b.offer.form) None

abbrev pub limit_of : ℕ → Side → ℕ → Place → Option LimitClaim
limit_of hour side t vacant = None
limit_of hour side t (held b) = cond (bids_in hour side b) (limit_bid b t b.offer.form) None

-- the claim that there is; a row has one at most
abbrev pub claim_out : {A B C : Type 0} → Option A → Option B → Option C → Option (A ⊎ (B ⊎ C))
claim_out (Some a) y z = Some (inl a)
claim_out None (Some b) z = Some (inr (inl b))
claim_out None None (Some c) = Some (inr (inr c))
claim_out None None None = None

module _ (ps : List Place) (sets : List ℕ) (ms : List Mark) (h t : ℕ) (side : Side) where
  -- the claim of row k in hour h, from 0, at the price t
  abbrev pub row_claim : ℕ → Option HourClaim
  row_claim k = claim_out (block_claim (is_kept (slice_index_or ms k Kept)) side h (block_of sets (place_at ps k))) (market_of (h + 1) side (place_at ps k)) (limit_of (h + 1) side t (place_at ps k))

  abbrev pub row_claims : List (Option HourClaim)
  row_claims = tabled row_claim (length ps)
