-- The first refusal of an order as it is asked for, whatever the table holds.
use Rattle.std.specs.Prelude.{ℕ, ◌-◌, Bool, true, false, cond, not, ◌&&◌, ◌||◌, length, Ok, Err, Result, ◌==◌, nat_lt}
use Rattle.faults.specs.declared.fault.Fault.{Fault}
use Rattle.faults.specs.declared.fault.Refusal.TheVariants.{NoSuchBlock, BlockForm}
use Rattle.faults.specs.Refusals.{fault}
use Rattle.faults.specs.Answers.{out_of_range}
use Rattle.curves.specs.declared.sides.Side.{Side}
use Rattle.curves.specs.Ranges.{outside, bad_volume}
use Rattle.curves.specs.Sequences.{pairs_verdict}
use Rattle.curves.specs.Offers.{Form, flat, stairs, slopes}
use Rattle.book.specs.Bids.{Asked}

-- rows are 0 to 255, members 1 to 999, products 1 to 38
abbrev pub bad_row : ℕ → Bool
bad_row r = nat_lt 255 r

abbrev pub bad_member : ℕ → Bool
bad_member m = outside 1 999 m

abbrev pub bad_product : ℕ → Bool
bad_product p = outside 1 38 p

abbrev pub bad_number : Asked → Bool
bad_number a = bad_row a.row || bad_member a.member || bad_product a.product

-- all numbers of the form, then its pairs one by one
abbrev pub form_verdict : Side → Form → Result (Unit {0}) Fault
form_verdict side (flat v) = cond (bad_volume v) (Err out_of_range) (Ok tt)
form_verdict side (stairs ps) = pairs_verdict side ps
form_verdict side (slopes ps) = pairs_verdict side ps

-- products 1 to 24 are hours, 25 is block 1
abbrev pub is_block : ℕ → Bool
is_block p = nat_lt 24 p

-- a market order or a step order of one pair
abbrev pub block_form : Form → Bool
block_form (flat v) = true
block_form (stairs ps) = length ps == 1
block_form (slopes ps) = false

-- a block order in a day that has n blocks: its block is one of them, then it has the form of a block
abbrev pub block_verdict : ℕ → ℕ → Form → Result (Unit {0}) Fault
block_verdict n p form =
    cond (is_block p && nat_lt n (p - 24)) (Err (fault NoSuchBlock 0))
    (cond (is_block p && not (block_form form)) (Err (fault BlockForm 0)) (Ok tt))

-- the first of two refusals
abbrev pub and_then : Result (Unit {0}) Fault → Result (Unit {0}) Fault → Result (Unit {0}) Fault
and_then (Ok u) next = next
and_then (Err e) next = Err e

-- in a day that has n blocks
unfoldable pub verdict : ℕ → Asked → Result (Unit {0}) Fault
verdict n a =
    cond (bad_number a) (Err out_of_range)
    (and_then (form_verdict a.offer.side a.offer.form) (block_verdict n a.product a.offer.form))
