-- Clearing a day: the results of the hours while some of the blocks stand, and where the rounds end.
use Rattle.std.specs.Prelude.{ℕ, ◌+◌, Bool, false, cond, List, map, Some, None, Option, nat_lt, slice_index}
use Rattle.std.specs.List.{range_with_len}
use Rattle.curves.specs.declared.sides.Side.{Side}
use Rattle.curves.specs.declared.sides.Side.TheVariants.{Buy, Sell}
use Rattle.curves.specs.declared.ticks.Tick.{Tick}
use Rattle.curves.specs.Price.{price_of, executed, surplus}
use Rattle.book.specs.Bids.{Place}
use Rattle.book.specs.Shown.{book_shows}
use Rattle.clearing.specs.declared.blocks.Block.{Block}
use Rattle.clearing.specs.declared.marks.Mark.{Mark}
use Rattle.clearing.specs.declared.results.HourResult.{HourResult}
use Rattle.clearing.specs.Hours.{day_hours, in_hour}
use Rattle.clearing.specs.Verdicts.{load_of}
use Rattle.clearing.specs.Rounds.{Outcome, rounds_of}
use Rattle.clearing.specs.Blocks.{blocks_of}

-- f at each number below n. Shut, so that no literal n is written out.
unfoldable pub tabled : {A : Type 0} → (ℕ → A) → ℕ → List A
tabled f n = map f (range_with_len 0 n)

unfoldable pub ticks : List Tick → List ℕ
ticks ts = map (λ t. t.value) ts

-- the side with the surplus, from what is bought and sold at the price
abbrev pub surplus_side : ℕ → ℕ → Side
surplus_side bought sold = cond (nat_lt sold bought) Buy Sell

-- what is published of price, executed volume and surplus, and of what is bought at the price
abbrev pub published : ℕ × ℕ × ℕ → ℕ → HourResult
published x bought = record { price = x.0; executed = x.1; surplus = x.2; side = surplus_side bought x.1 }

-- what is published of an hour with these tables and this price
abbrev pub published_at : (ℕ → ℕ) → (ℕ → ℕ) → ℕ → HourResult
published_at b s p = record { price = p; executed = executed b s p; surplus = surplus b s p; side = surplus_side (b p) (s p) }

module _ (ps : List Place) (bs : List (Option Block)) (refs : List ℕ) (fs : List Bool) where
  -- the two tables of hour h, from 0: its orders, and the standing blocks on top
  abbrev pub bought : ℕ → ℕ → ℕ
  bought h t = book_shows (h + 1) Buy ps t + load_of bs fs Buy h

  abbrev pub sold : ℕ → ℕ → ℕ
  sold h t = book_shows (h + 1) Sell ps t + load_of bs fs Sell h

  unfoldable pub result_of : ℕ → HourResult
  result_of h = published_at (bought h) (sold h) (price_of (bought h) (sold h) (slice_index refs h))

  abbrev pub results_of : List HourResult
  results_of = tabled result_of day_hours

-- has this place a block with hour h?
abbrev pub has_hour : ℕ → Option Block → Bool
has_hour h None = false
has_hour h (Some b) = in_hour b.hours h

-- What clearing a day comes to: how many rounds, the results of the hours, and a mark for each place.
pub record Clearing : Type 0 where
  pub rounds : ℕ
  pub results : List HourResult
  pub marks : List Mark

abbrev pub clearing : ℕ → List HourResult → List Mark → Clearing
clearing n rs ms = record { rounds = n; results = rs; marks = ms }

abbrev pub settled_at : List Place → List (Option Block) → List ℕ → Outcome → Clearing
settled_at ps bs refs o = clearing o.rounds (results_of ps bs refs o.standing) o.marks

-- the rounds over the day's block orders, each hour priced with the standing ones
unfoldable pub clearing_of : List Place → List ℕ → List ℕ → Clearing
clearing_of ps sets refs = settled_at ps (blocks_of sets ps) refs (rounds_of (blocks_of sets ps) (results_of ps (blocks_of sets ps) refs))
