-- The plain values behind a ticket, a row, the order table and the day's block products.
use Rattle.std.specs.Prelude.{ℕ, List, map, take, Option, None, Some}
use Rattle.curves.specs.Orders.{offer_of}
use Rattle.book.specs.declared.tickets.Ticket.{Ticket}
use Rattle.book.specs.declared.entries.Entry.{Entry}
use Rattle.book.specs.declared.blocks.Blocks.{Blocks}
use Rattle.book.specs.Bids.{Asked, Bid, Place, vacant, held}

unfoldable pub ticket_of : Ticket → Asked
ticket_of t = record { row = t.row; member = t.member; product = t.product; offer = offer_of t.order }

abbrev pub entry_of : Entry → Bid
entry_of e = record { member = e.member; product = e.product; stamp = e.stamp; offer = offer_of e.order }

abbrev pub place_of : Option Entry → Place
place_of None = vacant
place_of (Some e) = held (entry_of e)

unfoldable pub places : List (Option Entry) → List Place
places rows = map place_of rows

abbrev pub sets_of : Blocks → List ℕ
sets_of b = take b.count b.sets
