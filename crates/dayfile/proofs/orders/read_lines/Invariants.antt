use Rattle.std.proofs.Common.{◌≡◌, ◌-◌}
use Rattle.book.specs.Views.{places}
use Rattle.text.specs.Staged.{leaving, staged_read}
use Rattle.text.specs.Tokens.{ahead}
use Rattle.dayfile.specs.Day.{booked, order_line}
use Rattle.dayfile.specs.Loading.{book_of}
use Rattle.dayfile.proofs.orders.read_lines.Given as goal

abbrev pub invariant-loop-given : goal.invariant-loop-given
invariant-loop-given l =
    (leaving booked (book_of (places l.rows) l.given) (staged_read (order_line l.blocks) booked (book_of (places l.rows) l.given) (l.n - l.given) 0 l.reader.at (ahead l.reader))
    ≡ leaving booked (book_of (places l.initial.rows) 0) (staged_read (order_line l.blocks) booked (book_of (places l.initial.rows) 0) l.n 0 l.initial.reader.at (ahead l.initial.reader)))
    × (l.reader.input.now ≡ l.initial.reader.input.now)
