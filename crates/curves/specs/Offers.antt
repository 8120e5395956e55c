-- An order by its side and form, as plain values, and what it shows at a tick.
use Rattle.std.specs.Prelude.{ℕ, List}
use Rattle.curves.specs.declared.sides.Side.{Side}
use Rattle.curves.specs.Points.{Point}
use Rattle.curves.specs.Steps.{step_shows}
use Rattle.curves.specs.Lines.{line_shows}

-- a market order, a step order or a linear order
pub data Form : Type 0 where
  flat : ℕ → Form
  stairs : List Point → Form
  slopes : List Point → Form

pub record Offer : Type 0 where
  pub side : Side
  pub form : Form

abbrev pub form_shows : Side → Form → ℕ → ℕ
form_shows side (flat v) t = v
form_shows side (stairs ps) t = step_shows side ps t
form_shows side (slopes ps) t = line_shows side ps t

abbrev pub offer_shows : Offer → ℕ → ℕ
offer_shows o t = form_shows o.side o.form t

abbrev pub offer : Side → Form → Offer
offer side form = record { side = side; form = form }
