-- The shares of an hour: what is shared out on each side, each row's share, and what holds of them.
use Rattle.std.specs.Prelude.{◌≡◌, ℕ, ◌+◌, ◌-◌, ◌<◌, ◌≤◌, min, max, true, false, cond, ◌&&◌, List, map, length, Some, Ok, Err, sum_by, sum, Option, Result, ◌==◌, slice_index, slice_index_or}
use Rattle.faults.specs.declared.fault.Fault.{Fault}
use Rattle.faults.specs.Answers.{out_of_range, wrong_length}
use Rattle.allocation.specs.declared.block.BlockClaim.{BlockClaim}
use Rattle.allocation.specs.declared.market.MarketClaim.{MarketClaim}
use Rattle.allocation.specs.declared.limit.LimitClaim.{LimitClaim}
use Rattle.allocation.specs.Kinds.{SharedKind}
use Rattle.allocation.specs.Shares.{shares_of}
use Rattle.curves.specs.declared.sides.Side.{Side}
use Rattle.curves.specs.declared.sides.Side.TheVariants.{Buy, Sell}
use Rattle.curves.specs.Ranges.{bad_tick}
use Rattle.book.specs.Bids.{Bid, Place, held}
use Rattle.book.specs.Places.{place_at}
use Rattle.book.specs.Shown.{same_side, bad_hour}
use Rattle.clearing.specs.declared.blocks.Block.{Block}
use Rattle.clearing.specs.declared.marks.Mark.{Mark}
use Rattle.clearing.specs.declared.marks.Mark.TheVariants.{Kept}
use Rattle.clearing.specs.declared.results.HourResult.{HourResult}
use Rattle.clearing.specs.Results.{result_at}
use Rattle.clearing.specs.Hours.{in_hour}
use Rattle.clearing.specs.Blocks.{block_of}
use Rattle.clearing.specs.Clearing.{tabled, clearing_of}
use Rattle.clearing.specs.Fixing.{Stamped}
use Rattle.clearing.specs.Claims.{place_kind, block_kind, market_kind, limit_kind, row_kind, row_claims}

-- the answer: 256 rows, marks and shares, an hour from 1 to 24, a price on the ladder
abbrev pub shares_refused : ℕ → ℕ → ℕ → ℕ → ℕ → Result (Unit {0}) Fault
shares_refused rows marks shares hour price =
    cond (rows == 256 && (marks == 256 && shares == 256))
    (cond (bad_hour hour) (Err out_of_range) (cond (bad_tick price) (Err out_of_range) (Ok tt)))
    (Err wrong_length)

-- on the side with the surplus the executed volume and the hour's post fills, on the other the executed volume; a volume has 64 binary digits
abbrev pub shared_out : HourResult → ℕ → Side → ℕ
shared_out r filled side = cond (same_side side r.side) (min (r.executed + filled) 18446744073709551615) r.executed

-- of the three kinds, and of the two sides, a row has a share of one at most: the largest is that one
abbrev pub largest : ℕ → ℕ → ℕ → ℕ
largest x y z = max x (max y z)

abbrev pub largest_of : List ℕ → List ℕ → List ℕ → ℕ → ℕ
largest_of xs ys zs k = largest (slice_index xs k) (slice_index ys k) (slice_index zs k)

-- each kind out of what the kinds before it leave
abbrev pub served_in_turn : ℕ → List (Option BlockClaim) → List (Option MarketClaim) → List (Option LimitClaim) → ℕ → List ℕ
served_in_turn volume xs ys zs n =
    let a = place_kind block_kind in
    let b = place_kind market_kind in
    let c = place_kind limit_kind in
    tabled (largest_of (shares_of a.asks a.before volume xs) (shares_of b.asks b.before (volume - sum_by a.asks xs) ys) (shares_of c.asks c.before (volume - sum_by a.asks xs - sum_by b.asks ys) zs)) n

abbrev pub both_sides : List ℕ → List ℕ → ℕ → List ℕ
both_sides xs ys n = tabled (λ k. max (slice_index xs k) (slice_index ys k)) n

-- the shares of the rows on a side: the one share rule over the side's claims
unfoldable pub side_shares : List Place → List ℕ → List Mark → ℕ → ℕ → Side → ℕ → List ℕ
side_shares ps sets ms h t side volume = shares_of row_kind.asks row_kind.before volume (row_claims ps sets ms h t side)

module _ (ps : List Place) (sets : List ℕ) (ms : List Mark) (h : ℕ) (r : HourResult) (filled : ℕ) where
  abbrev pub shares_on : Side → List ℕ
  shares_on side = side_shares ps sets ms h r.price side (shared_out r filled side)

  -- a row's share is its share on its side
  abbrev pub hour_shares : List ℕ
  hour_shares = both_sides (shares_on Buy) (shares_on Sell) (length ps)

  -- the results and marks are those of clearing these rows at some reference values
  pub record FromClearing : Type 0 where
    pub refs : List ℕ
    pub result_is : r ≡ result_at (clearing_of ps sets refs).results h
    pub marks_are : ms ≡ (clearing_of ps sets refs).marks

  pub record HourShared : Type 0 where
    -- the one share rule on each side, across the kinds of claims: the order of serving, the sum, and all full where it suffices
    pub ruled : (side : Side) → SharedKind row_kind (shared_out r filled side) (row_claims ps sets ms h r.price side) (shares_on side)
    -- a row has its share on the side of its order alone
    pub own : (k : ℕ) (b : Bid) → k < length ps → place_at ps k ≡ held b → slice_index hour_shares k ≡ slice_index (shares_on b.offer.side) k
    -- balance: the side with the surplus receives the executed volume and the post fills, the other the executed volume
    pub balance : Stamped ps → FromClearing → filled ≤ r.surplus → (side : Side) → sum (shares_on side) ≡ cond (same_side side r.side) (r.executed + filled) r.executed
    -- on the side without the surplus everybody receives what they ask
    pub others : FromClearing → (side : Side) → same_side side r.side ≡ false → shares_on side ≡ map row_kind.asks (row_claims ps sets ms h r.price side)
    -- a standing block has its whole volume in each of its hours
    pub whole : FromClearing → (k : ℕ) (b : Block) → k < length ps → block_of sets (place_at ps k) ≡ Some b → slice_index_or ms k Kept ≡ Kept → in_hour b.hours h ≡ true → slice_index (shares_on b.side) k ≡ b.volume
