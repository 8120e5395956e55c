-- What a linear order shows, from its pairs.
use Rattle.std.specs.Prelude.{ℕ, ◌+◌, ◌-◌, ◌*◌, ◌/◌, cond, ◌&&◌, List, [], ◌∷◌, nat_lt}
use Rattle.curves.specs.declared.sides.Side.{Side}
use Rattle.curves.specs.Points.{Point}
use Rattle.curves.specs.Steps.{step_shows}

-- what is added to n before n / d is cut to whole tenths: nothing, so that it is rounded down
unfoldable pub nudge : ℕ → ℕ
nudge d = 0

unfoldable pub rounded : ℕ → ℕ → ℕ
rounded n d = (n + nudge d) / d

-- the straight line through two pairs, at a tick from the first to the second
abbrev pub straight : Point → Point → ℕ → ℕ
straight p q t = rounded (p.volume * (q.tick - t) + q.volume * (t - p.tick)) (q.tick - p.tick)

-- the straight-line value where the tick lies strictly between two neighbouring pairs, else v
unfoldable pub inside : List Point → ℕ → ℕ → ℕ
inside [] t v = v
inside (p ∷ []) t v = v
inside (p ∷ q ∷ ps) t v = cond (nat_lt p.tick t && nat_lt t q.tick) (straight p q t) (inside (q ∷ ps) t v)

-- elsewhere it shows what a step order shows
abbrev pub line_shows : Side → List Point → ℕ → ℕ
line_shows side ps t = inside ps t (step_shows side ps t)
