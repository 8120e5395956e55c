-- The plain pairs behind the pairs of the code and behind those that are asked for.
use Rattle.std.specs.Prelude.{List, map}
use Rattle.curves.specs.declared.pairs.Pair.{Pair}
use Rattle.curves.specs.declared.quotes.Quote.{Quote}
use Rattle.curves.specs.Points.{Point}

abbrev pub point : Pair → Point
point p = record { tick = p.tick; volume = p.volume }

abbrev pub points : List Pair → List Point
points ps = map point ps

abbrev pub quoted : Quote → Point
quoted q = record { tick = q.tick; volume = q.volume }

unfoldable pub quotes : List Quote → List Point
quotes qs = map quoted qs
