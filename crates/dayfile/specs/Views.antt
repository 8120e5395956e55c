-- The plain numbers behind a list of ticks.
use Rattle.std.specs.Prelude.{ℕ, List, map}
use Rattle.curves.specs.declared.ticks.Tick.{Tick}

unfoldable pub tick_values : List Tick → List ℕ
tick_values ticks = map (λ t. t.value) ticks
