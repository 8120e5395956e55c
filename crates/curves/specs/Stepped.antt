-- The laws of a step order.
use Rattle.std.specs.Prelude.{◌≡◌, ℕ, ◌+◌, ◌<◌, ◌≤◌, true, cond, List, [], ◌∷◌, length, drop, nat_le, nat_lt, slice_index_or, refl}
use Rattle.std.proofs.Common.{ap, sym, ◌∙◌, arith}
use Rattle.std.proofs.lemmas.List.{at_drop_more, at_drop_all}
use Rattle.std.proofs.lemmas.Bool.{and_parts, leb-true}
use Rattle.std.proofs.lemmas.Bool.Decides.{nat_tests}
use Rattle.curves.specs.declared.sides.Side.{Side}
use Rattle.curves.specs.declared.sides.Side.TheVariants.{Buy, Sell}
use Rattle.curves.specs.declared.pairs.Pair.{Pair}
use Rattle.curves.specs.Points.{Point}
use Rattle.curves.specs.Views.{points}
use Rattle.curves.specs.Tables.{Turned, Greatest}
use Rattle.curves.specs.Steps.{last_below, first_above, step_shows, open_end}
use Rattle.curves.specs.Sequences.{follows, ordered}

-- every volume is that of an order
abbrev pub Small : List Point → Type 0
Small [] = Unit {0}
Small (p ∷ ps) = (p.volume ≤ 100000) × Small ps

pub small_points : (ps : List Pair) → Small (points ps)
small_points [] = tt
small_points (p ∷ ps) = (p.few, small_points ps)

abbrev pub Climbs : ℕ → List Point → Type 0
Climbs v [] = Unit {0}
Climbs v (p ∷ ps) = (v ≤ p.volume) × Climbs p.volume ps

abbrev pub Sinks : ℕ → List Point → Type 0
Sinks v [] = Unit {0}
Sinks v (p ∷ ps) = (p.volume ≤ v) × Sinks p.volume ps

pub climbs_after : (p : Point) (ps : List Point) → ordered Sell (p ∷ ps) ≡ true → Climbs p.volume ps
unfolding ordered
climbs_after p [] h = tt
climbs_after p (q ∷ ps) h =
    let parts = and_parts (follows Sell p (q ∷ ps)) (ordered Sell (q ∷ ps)) h in
    let here = and_parts (nat_lt p.tick q.tick) (nat_le p.volume q.volume) parts.0 in
    (leb-true p.volume q.volume here.1, climbs_after q ps parts.1)

pub sinks_after : (p : Point) (ps : List Point) → ordered Buy (p ∷ ps) ≡ true → Sinks p.volume ps
unfolding ordered
sinks_after p [] h = tt
sinks_after p (q ∷ ps) h =
    let parts = and_parts (follows Buy p (q ∷ ps)) (ordered Buy (q ∷ ps)) h in
    let here = and_parts (nat_lt p.tick q.tick) (nat_le q.volume p.volume) parts.0 in
    (leb-true q.volume p.volume here.1, sinks_after q ps parts.1)

climbs_all : (ps : List Point) → ordered Sell ps ≡ true → Climbs 0 ps
climbs_all [] h = tt
climbs_all (p ∷ ps) h = (omega arith, climbs_after p ps h)

sinks_all : (ps : List Point) → Small ps → ordered Buy ps ≡ true → Sinks 100000 ps
sinks_all [] s h = tt
sinks_all (p ∷ ps) s h = (s.0, sinks_after p ps h)

climbs_from : (v w : ℕ) (ps : List Point) → v ≤ w → Climbs w ps → Climbs v ps
climbs_from v w [] h c = tt
climbs_from v w (p ∷ ps) h c = (omega (arith, c.0), c.1)

below_rises : (ps : List Point) (t u v w : ℕ) → t ≤ u → v ≤ w → Climbs w ps → last_below ps t v ≤ last_below ps u w
unfolding last_below
below_rises [] t u v w h k c = k
below_rises (p ∷ ps) t u v w h k c =
    let v' : ℕ = cond (nat_le p.tick t) p.volume v in
    let w' : ℕ = cond (nat_le p.tick u) p.volume w in
    let c0 : w ≤ p.volume = c.0 in
    let more : v' ≤ w' = grind (arith, nat_tests) in
    let top : w' ≤ p.volume = grind (arith, nat_tests) in
    below_rises ps t u v' w' h more (climbs_from w' p.volume ps top c.1)

below_few : (ps : List Point) (t v : ℕ) → Small ps → v ≤ 100000 → last_below ps t v ≤ 100000
unfolding last_below
below_few [] t v s h = h
below_few (p ∷ ps) t v s h =
    let few : p.volume ≤ 100000 = s.0 in
    below_few ps t (cond (nat_le p.tick t) p.volume v) s.1 (grind (arith, nat_tests))

above_few : (ps : List Point) (t v : ℕ) → Sinks v ps → first_above ps t ≤ v
unfolding first_above
above_few [] t v c = omega arith
above_few (p ∷ ps) t v c =
    let c0 : p.volume ≤ v = c.0 in
    let rest = above_few ps t p.volume c.1 in
    grind (arith, nat_tests)

above_falls : (ps : List Point) (t u v : ℕ) → t ≤ u → Sinks v ps → first_above ps u ≤ first_above ps t
unfolding first_above
above_falls [] t u v h c = omega arith
above_falls (p ∷ ps) t u v h c =
    let low = above_few ps u p.volume c.1 in
    let rest = above_falls ps t u p.volume h c.1 in
    grind (arith, nat_tests)

pub step_turned : (side : Side) (ps : List Point) → Small ps → ordered side ps ≡ true → Turned side (step_shows side ps)
step_turned Buy ps s h = λ t u a b c. above_falls ps t u 100000 b (sinks_all ps s h)
step_turned Sell ps s h = λ t u a b c. below_rises ps t u 0 0 b (omega arith) (climbs_all ps h)

pub step_bounded : (side : Side) (ps : List Point) → Small ps → ordered side ps ≡ true → Greatest (step_shows side ps) (step_shows side ps (open_end side))
step_bounded Buy ps s h = record {
  bounds = λ t a b. above_falls ps 1 t 100000 a (sinks_all ps s h);
  at = 1;
  low = omega arith;
  high = omega arith;
  attained = refl;
  small = omega (arith, above_few ps 1 100000 (sinks_all ps s h));
}
step_bounded Sell ps s h = record {
  bounds = λ t a b. below_rises ps t 300000 0 0 b (omega arith) (climbs_all ps h);
  at = 300000;
  low = omega arith;
  high = omega arith;
  attained = refl;
  small = omega (arith, below_few ps 300000 0 s (omega arith));
}

pub step_few : (side : Side) (ps : List Point) (t : ℕ) → Small ps → ordered side ps ≡ true → step_shows side ps t ≤ 100000
step_few Buy ps t s h = above_few ps t 100000 (sinks_all ps s h)
step_few Sell ps t s h = below_few ps t 0 s (omega arith)

-- one pair of a walk
pub below_step : (ps : List Pair) (i t v : ℕ) (p : Pair) → i < length ps → p ≡ slice_index_or ps i p → last_below (points (drop i ps)) t v ≡ last_below (points (drop (i + 1) ps)) t (cond (nat_le p.tick t) p.volume v)
unfolding last_below
below_step ps i t v p h e = at_drop_more (λ (xs : List Pair). last_below (points xs) t v) ps i p h ∙ ap (λ (q : Pair). last_below (points (drop (i + 1) ps)) t (cond (nat_le q.tick t) q.volume v)) (sym e)

pub above_step : (ps : List Pair) (i t : ℕ) (p : Pair) → i < length ps → p ≡ slice_index_or ps i p → first_above (points (drop i ps)) t ≡ cond (nat_le t p.tick) p.volume (first_above (points (drop (i + 1) ps)) t)
unfolding first_above
above_step ps i t p h e = at_drop_more (λ (xs : List Pair). first_above (points xs) t) ps i p h ∙ ap (λ (q : Pair). cond (nat_le t q.tick) q.volume (first_above (points (drop (i + 1) ps)) t)) (sym e)

pub below_end : (ps : List Pair) (i t v : ℕ) → length ps ≤ i → last_below (points (drop i ps)) t v ≡ v
unfolding last_below
below_end ps i t v h = at_drop_all (λ (xs : List Pair). last_below (points xs) t v) ps i h

pub above_end : (ps : List Pair) (i t : ℕ) → length ps ≤ i → first_above (points (drop i ps)) t ≡ 0
unfolding first_above
above_end ps i t h = at_drop_all (λ (xs : List Pair). first_above (points xs) t) ps i h
