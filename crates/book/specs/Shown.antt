-- What one side of an hour in the order table shows: the sum of its orders.
use Rattle.std.specs.Prelude.{ℕ, ◌+◌, Bool, true, false, cond, ◌&&◌, List, [], ◌∷◌, length, Ok, Err, Result, ◌==◌, nat_lt}
use Rattle.faults.specs.declared.fault.Fault.{Fault}
use Rattle.faults.specs.Answers.{out_of_range, wrong_length}
use Rattle.curves.specs.declared.sides.Side.{Side}
use Rattle.curves.specs.declared.sides.Side.TheVariants.{Buy, Sell}
use Rattle.curves.specs.Ranges.{outside}
use Rattle.curves.specs.Offers.{offer_shows}
use Rattle.curves.specs.Loads.{loaded_answer}
use Rattle.book.specs.Bids.{Place, vacant, held}

abbrev pub same_side : Side → Side → Bool
same_side Buy Buy = true
same_side Buy Sell = false
same_side Sell Buy = false
same_side Sell Sell = true

-- what a place adds to one side of an hour
abbrev pub place_shows : ℕ → Side → Place → ℕ → ℕ
place_shows hour side vacant t = 0
place_shows hour side (held b) t = cond (b.product == hour && same_side b.offer.side side) (offer_shows b.offer t) 0

unfoldable pub book_shows : ℕ → Side → List Place → ℕ → ℕ
book_shows hour side [] t = 0
book_shows hour side (p ∷ ps) t = place_shows hour side p t + book_shows hour side ps t

-- the rows of a table, of which there may be 256 at most
abbrev pub lent_answer : {A : Type 0} → List A → Result (List A) Fault
lent_answer xs = cond (nat_lt 256 (length xs)) (Err wrong_length) (Ok xs)

-- hours are 1 to 24
abbrev pub bad_hour : ℕ → Bool
bad_hour h = outside 1 24 h

-- tick, executed volume and surplus of an hour, with a fixed volume added to each of its sides
abbrev pub sides_answer : List Place → ℕ → ℕ → ℕ → ℕ → Result (ℕ × ℕ × ℕ) Fault
sides_answer ps hour bought sold ref =
    loaded_answer Buy (book_shows hour Buy ps) (book_shows hour Buy ps 1) bought Sell (book_shows hour Sell ps) (book_shows hour Sell ps 300000) sold ref

-- the same in a lent table of n rows
abbrev pub hour_answer : ℕ → List Place → ℕ → ℕ → ℕ → ℕ → Result (ℕ × ℕ × ℕ) Fault
hour_answer n ps hour bought sold ref =
    cond (nat_lt 256 n) (Err wrong_length)
    (cond (bad_hour hour) (Err out_of_range) (sides_answer ps hour bought sold ref))
