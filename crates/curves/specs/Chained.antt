-- The side and the plain pairs behind a chain.
use Rattle.std.specs.Prelude.{List, take}
use Rattle.curves.specs.declared.sides.Side.{Side}
use Rattle.curves.specs.declared.chains.Chain.{Chain}
use Rattle.curves.specs.Points.{Point}
use Rattle.curves.specs.Views.{points}

pub record Listed : Type 0 where
  pub side : Side
  pub pairs : List Point

abbrev pub chained : Side → List Point → Listed
chained side ps = record { side = side; pairs = ps }

abbrev pub chain_of : Chain → List Point
chain_of c = points (take c.count c.pairs)

abbrev pub listed : Chain → Listed
listed c = chained c.side (chain_of c)
