-- What an order of either run shows from one of its pairs on.
use Rattle.std.proofs.Common.{◌≡◌, ℕ, ◌<◌, ◌≤◌, true, leb, List, [], ◌∷◌, sym, refl, ap, ◌∙◌, inl, inr, arith}
use Rattle.std.proofs.lemmas.Bool.{cases_lt, cond-true, cond-false, le-leb, lt-leb}
use Rattle.areas.specs.Runs.{Way, level, sloped, run_shows, between}
use Rattle.curves.specs.declared.sides.Side.{Side}
use Rattle.curves.specs.declared.sides.Side.TheVariants.{Buy, Sell}
use Rattle.curves.specs.Points.{Point}
use Rattle.curves.specs.Sequences.{ordered}
use Rattle.curves.specs.Steps.{last_below, first_above}
use Rattle.curves.specs.Lines.{straight}
use Rattle.curves.specs.Stepped.{Small, step_few}
use Rattle.curves.specs.Tenths.{straight_start, straight_end}
use Rattle.curves.specs.Lined.{Ahead, line_few, below_before, inside_here, up, up_at, up_past, up_last, down, down_at, down_past, down_last, sell_where, buy_where}

pub run_few : (run : Way) (side : Side) (ps : List Point) (t : ℕ) → Small ps → ordered side ps ≡ true → run_shows run side ps t ≤ 100000
run_few level side ps t s h = step_few side ps t s h
run_few sloped side ps t s h = line_few side ps t s h

-- a sell order from its pair p on
abbrev pub onward : Way → Point → List Point → ℕ → ℕ
onward level p ps t = last_below ps t p.volume
onward sloped p ps t = up p ps t

pub onward_here : (run : Way) (p q : Point) (qs : List Point) (t : ℕ) → p.tick ≤ t → t < q.tick → Ahead p.tick (q ∷ qs) → onward run p (q ∷ qs) t ≡ between Sell run p q t
onward_here level p q qs t low high a = below_before (q ∷ qs) t p.volume t (omega arith) (high, a.1)
onward_here sloped p q qs t low high a = elim (cases_lt p.tick t) [
  | inl lt ↦ inside_here p q qs t _ lt high
  | inr le ↦ let e : t ≡ p.tick = omega arith in up_at p (q ∷ qs) t le a ∙ (sym (straight_start p q a.0) ∙ ap (straight p q) (sym e))
]

pub onward_past : (run : Way) (p q : Point) (qs : List Point) (t : ℕ) → q.tick ≤ t → onward run p (q ∷ qs) t ≡ onward run q qs t
unfolding last_below
onward_past level p q qs t h = ap (last_below qs t) (cond-true (leb q.tick t) q.volume p.volume (le-leb q.tick t h))
onward_past sloped p q qs t h = up_past p q qs t h

pub onward_last : (run : Way) (p : Point) (t : ℕ) → onward run p [] t ≡ p.volume
unfolding last_below
onward_last level p t = refl
onward_last sloped p t = up_last p t

pub sell_before : (run : Way) (p : Point) (ps : List Point) (t : ℕ) → Ahead p.tick ps → t < p.tick → run_shows run Sell (p ∷ ps) t ≡ 0
sell_before level p ps t a lt = below_before (p ∷ ps) t 0 t (omega arith) (lt, a)
sell_before sloped p ps t a lt = elim (sell_where p ps t a) [ inl w ↦ w.1 | inr w ↦ absurd (omega (arith, w.0)) ]

pub sell_from : (run : Way) (p : Point) (ps : List Point) (t : ℕ) → Ahead p.tick ps → p.tick ≤ t → run_shows run Sell (p ∷ ps) t ≡ onward run p ps t
unfolding last_below
sell_from level p ps t a le = ap (last_below ps t) (cond-true (leb p.tick t) p.volume 0 (le-leb p.tick t le))
sell_from sloped p ps t a le = elim (sell_where p ps t a) [ inl w ↦ absurd (omega (arith, w.0)) | inr w ↦ w.1 ]

-- a buy order above its pair p
abbrev pub upward : Way → Point → List Point → ℕ → ℕ
upward level p ps t = first_above ps t
upward sloped p ps t = down p ps t

pub upward_here : (run : Way) (p q : Point) (qs : List Point) (t : ℕ) → p.tick < t → t ≤ q.tick → Ahead p.tick (q ∷ qs) → upward run p (q ∷ qs) t ≡ between Buy run p q t
unfolding first_above
upward_here level p q qs t low high a = cond-true (leb t q.tick) q.volume (first_above qs t) (le-leb t q.tick high)
upward_here sloped p q qs t low high a = elim (cases_lt t q.tick) [
  | inl lt ↦ inside_here p q qs t _ low lt
  | inr ge ↦ let e : t ≡ q.tick = omega arith in down_at p q qs t e a.1 ∙ (sym (straight_end p q a.0) ∙ ap (straight p q) (sym e))
]

pub upward_past : (run : Way) (p q : Point) (qs : List Point) (t : ℕ) → q.tick < t → upward run p (q ∷ qs) t ≡ upward run q qs t
unfolding first_above
upward_past level p q qs t h = cond-false (leb t q.tick) q.volume (first_above qs t) (lt-leb t q.tick h)
upward_past sloped p q qs t h = down_past p q qs t h

pub upward_last : (run : Way) (p : Point) (t : ℕ) → upward run p [] t ≡ 0
unfolding first_above
upward_last level p t = refl
upward_last sloped p t = down_last p t

pub buy_until : (run : Way) (p : Point) (ps : List Point) (t : ℕ) → Ahead p.tick ps → t ≤ p.tick → run_shows run Buy (p ∷ ps) t ≡ p.volume
unfolding first_above
buy_until level p ps t a le = cond-true (leb t p.tick) p.volume (first_above ps t) (le-leb t p.tick le)
buy_until sloped p ps t a le = elim (buy_where p ps t a) [ inl w ↦ w.1 | inr w ↦ absurd (omega (arith, w.0)) ]

pub buy_after : (run : Way) (p : Point) (ps : List Point) (t : ℕ) → Ahead p.tick ps → p.tick < t → run_shows run Buy (p ∷ ps) t ≡ upward run p ps t
unfolding first_above
buy_after level p ps t a lt = cond-false (leb t p.tick) p.volume (first_above ps t) (lt-leb t p.tick lt)
buy_after sloped p ps t a lt = elim (buy_where p ps t a) [ inl w ↦ absurd (omega (arith, w.0)) | inr w ↦ w.1 ]
