-- An order as it is asked for, an order that stands in the book, and a place of the order table, as plain values.
use Rattle.std.specs.Prelude.{ℕ}
use Rattle.curves.specs.Offers.{Offer}

pub record Asked : Type 0 where
  pub row : ℕ
  pub member : ℕ
  pub product : ℕ
  pub offer : Offer

pub record Bid : Type 0 where
  pub member : ℕ
  pub product : ℕ
  pub stamp : ℕ
  pub offer : Offer

pub data Place : Type 0 where
  vacant : Place
  held : Bid → Place

-- the bid that an order makes under a stamp
abbrev pub bid_of : Asked → ℕ → Bid
bid_of a n = record { member = a.member; product = a.product; stamp = n; offer = a.offer }
