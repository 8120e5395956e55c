use Rattle.std.proofs.Common.{◌≡◌, arith, rules}
use Rattle.curves.specs.declared.sides.Side.TheVariants.{Buy}
use Rattle.book.specs.Shown.{book_shows}
use Rattle.book.specs.Views.{places}
use Rattle.book.specs.Booked.{book_few}
use Rattle.clearing.proofs.days.Day.buys_at.Goals as goal

pub returns : goal.returns
returns c =
    let rows = c.args.self.now.rows.now in
    let is : c.volume_at.result ≡ book_shows c.args.hour Buy (places rows) c.args.price = search rules in
    record { is = is; few = omega (arith, is, book_few c.args.hour Buy rows c.args.price, c.args.self.now.few) }
