-- The items of an order line: row, member, product, side, form, and then the market volume or the pairs after their count.
use Rattle.std.specs.Prelude.{ℕ, cond, List, [], length, ◌==◌}
use Rattle.curves.specs.declared.sides.Side.{Side}
use Rattle.curves.specs.Points.{Point}
use Rattle.curves.specs.Offers.{Form, flat, stairs, slopes, offer}
use Rattle.book.specs.Bids.{Asked}
use Rattle.text.specs.Format.{Format, item, then, dressed}
use Rattle.text.specs.Items.{number}
use Rattle.text.specs.Staged.{recast, many}
use Rattle.dayfile.specs.declared.kinds.Kind.{Kind}
use Rattle.dayfile.specs.declared.kinds.Kind.TheVariants.{Market, Step, Linear}
use Rattle.dayfile.specs.Kinds.{side_text, kind_word}

-- the byte after an item that k more follow in its line: a space, or the line end after the last
abbrev pub closing : ℕ → ℕ
closing k = cond (k == 0) 10 32

abbrev pub as_point : ℕ × ℕ → Point
as_point p = record { tick = p.0; volume = p.1 }

abbrev pub point_items : ℕ → Format (ℕ × ℕ)
point_items c = then (item (number 1 300000) 32) (λ _. item (number 1 100000) c)

-- a pair, and the byte c after it
unfoldable pub point_text : ℕ → Format Point
point_text c = dressed as_point (λ p. (p.tick, p.volume)) (point_items c)

-- a pair that k more follow
abbrev pub point_on : ℕ → Format Point
point_on k = point_text (closing k)

-- a count from 1 to 8, and as many pairs
abbrev pub pair_items : Format (ℕ × List Point)
pair_items = then (item (number 1 8) 32) (many point_on)

unfoldable pub pairs_text : Format (List Point)
pairs_text = dressed (λ p. p.1) (λ ps. (length ps, ps)) pair_items

abbrev pub kind_of : Form → Kind
kind_of (flat v) = Market
kind_of (stairs ps) = Step
kind_of (slopes ps) = Linear

abbrev pub volume_in : Form → ℕ
volume_in (flat v) = v
volume_in (stairs ps) = 0
volume_in (slopes ps) = 0

abbrev pub pairs_in : Form → List Point
pairs_in (flat v) = []
pairs_in (stairs ps) = ps
pairs_in (slopes ps) = ps

-- what follows the word for the form
abbrev pub body : Kind → Format Form
body Market = recast flat volume_in (item (number 1 100000) 10)
body Step = recast stairs pairs_in pairs_text
body Linear = recast slopes pairs_in pairs_text

abbrev pub form_items : Format (Kind × Form)
form_items = then (item kind_word 32) body

unfoldable pub form_text : Format Form
form_text = recast (λ p. p.1) (λ f. (kind_of f, f)) form_items

abbrev pub order_items : Format (ℕ × (ℕ × (ℕ × (Side × Form))))
order_items =
    then (item (number 0 255) 32)
    (λ _. then (item (number 1 999) 32)
    (λ _. then (item (number 1 38) 32)
    (λ _. then side_text
    (λ _. form_text))))

abbrev pub as_asked : ℕ × (ℕ × (ℕ × (Side × Form))) → Asked
as_asked p = record { row = p.0; member = p.1.0; product = p.1.1.0; offer = offer p.1.1.1.0 p.1.1.1.1 }

abbrev pub as_items : Asked → ℕ × (ℕ × (ℕ × (Side × Form)))
as_items a = (a.row, (a.member, (a.product, (a.offer.side, a.offer.form))))

-- the items of an order line, with its end
unfoldable pub order_text : Format Asked
order_text = dressed as_asked as_items order_items
