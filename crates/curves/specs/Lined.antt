-- The laws of a linear order.
use Rattle.std.specs.Prelude.{◌≡◌, ℕ, zero, suc, ◌+◌, ◌-◌, ◌<◌, ◌≤◌, true, cond, ◌&&◌, ◌⊎◌, List, [], ◌∷◌, length, drop, nat_le, nat_lt, slice_index_or, refl}
use Rattle.std.proofs.Common.{ap, sym, ◌∙◌, inl, inr, arith}
use Rattle.std.proofs.lemmas.List.{drop_more}
use Rattle.std.proofs.lemmas.Bool.{and_parts, and_from, and_left, and_right, ltb-true, lt-ltb, le-ltb, le-leb, lt-leb, cond-true, cond-false, cases_lt}
use Rattle.curves.specs.declared.sides.Side.{Side}
use Rattle.curves.specs.declared.sides.Side.TheVariants.{Buy, Sell}
use Rattle.curves.specs.declared.pairs.Pair.{Pair}
use Rattle.curves.specs.Views.{point, points}
use Rattle.curves.specs.Points.{Point}
use Rattle.curves.specs.Tables.{Turned, Greatest}
use Rattle.curves.specs.Steps.{last_below, first_above, open_end}
use Rattle.curves.specs.Sequences.{turns, follows, ordered}
use Rattle.curves.specs.Lines.{inside, straight, line_shows}
use Rattle.curves.specs.Stepped.{Small, Climbs, Sinks, climbs_after, sinks_after}
use Rattle.curves.specs.Tenths.{up_from, up_to, down_to, down_from, straight_rises, straight_falls}

-- ticks that rise, from above a on
abbrev pub Ahead : ℕ → List Point → Type 0
Ahead a [] = Unit {0}
Ahead a (q ∷ qs) = (a < q.tick) × Ahead q.tick qs

pub ahead_after : (side : Side) (p : Point) (ps : List Point) → ordered side (p ∷ ps) ≡ true → Ahead p.tick ps
unfolding ordered
ahead_after side p [] h = tt
ahead_after side p (q ∷ ps) h =
    let parts = and_parts (follows side p (q ∷ ps)) (ordered side (q ∷ ps)) h in
    let here = and_parts (nat_lt p.tick q.tick) (turns side p.volume q.volume) parts.0 in
    (ltb-true p.tick q.tick here.0, ahead_after side q ps parts.1)

-- at or before the first pair there is nothing between
pub inside_before : (p : Point) (ps : List Point) (t v : ℕ) → t ≤ p.tick → Ahead p.tick ps → inside (p ∷ ps) t v ≡ v
unfolding inside
inside_before p [] t v h a = refl
inside_before p (q ∷ qs) t v h a =
    let a0 : p.tick < q.tick = a.0 in
    cond-false (nat_lt p.tick t && nat_lt t q.tick) _ _ (and_left (nat_lt p.tick t) (nat_lt t q.tick) (le-ltb p.tick t h))
    ∙ inside_before q qs t v (omega arith) a.1

pub below_before : (ps : List Point) (t v a : ℕ) → t ≤ a → Ahead a ps → last_below ps t v ≡ v
unfolding last_below
below_before [] t v a h k = refl
below_before (q ∷ qs) t v a h k =
    let k0 : a < q.tick = k.0 in
    ap (last_below qs t) (cond-false (nat_le q.tick t) q.volume v (lt-leb q.tick t (omega arith)))
    ∙ below_before qs t v q.tick (omega arith) k.1

-- the piece after p and what follows
pub inside_here : (p q : Point) (qs : List Point) (t v : ℕ) → p.tick < t → t < q.tick → inside (p ∷ q ∷ qs) t v ≡ straight p q t
unfolding inside
inside_here p q qs t v a b = cond-true (nat_lt p.tick t && nat_lt t q.tick) _ _ (and_from (nat_lt p.tick t) (nat_lt t q.tick) (lt-ltb p.tick t a) (lt-ltb t q.tick b))

pub inside_past : (p q : Point) (qs : List Point) (t v : ℕ) → q.tick ≤ t → inside (p ∷ q ∷ qs) t v ≡ inside (q ∷ qs) t v
unfolding inside
inside_past p q qs t v b = cond-false (nat_lt p.tick t && nat_lt t q.tick) _ _ (and_right (nat_lt p.tick t) (nat_lt t q.tick) (le-ltb t q.tick b))

-- a sell order from its pair p on
abbrev pub up : Point → List Point → ℕ → ℕ
up p ps t = inside (p ∷ ps) t (last_below ps t p.volume)

pub up_at : (p : Point) (ps : List Point) (t : ℕ) → t ≤ p.tick → Ahead p.tick ps → up p ps t ≡ p.volume
up_at p ps t h a = inside_before p ps t _ h a ∙ below_before ps t p.volume p.tick h a

pub up_past : (p q : Point) (qs : List Point) (t : ℕ) → q.tick ≤ t → up p (q ∷ qs) t ≡ up q qs t
unfolding last_below
up_past p q qs t h =
    inside_past p q qs t _ h
    ∙ ap (λ (v : ℕ). inside (q ∷ qs) t (last_below qs t v)) (cond-true (nat_le q.tick t) q.volume p.volume (le-leb q.tick t h))

pub up_last : (p : Point) (t : ℕ) → up p [] t ≡ p.volume
unfolding inside last_below
up_last p t = refl

-- where a tick from p on lies
up_where : (p q : Point) (qs : List Point) (t : ℕ) → p.tick ≤ t → Ahead p.tick (q ∷ qs) →
    ((t ≤ p.tick) × (up p (q ∷ qs) t ≡ p.volume)) ⊎ (((p.tick < t) × (t < q.tick) × (up p (q ∷ qs) t ≡ straight p q t)) ⊎ ((q.tick ≤ t) × (up p (q ∷ qs) t ≡ up q qs t)))
up_where p q qs t low a =
    let a0 : p.tick < q.tick = a.0 in
    elim (cases_lt t q.tick) [
      | inl lt ↦ elim (cases_lt p.tick t) [
        | inl more ↦ inr (inl (more, lt, inside_here p q qs t _ more lt))
        | inr here ↦ inl (here, up_at p (q ∷ qs) t here a)
      ]
      | inr past ↦ inr (inr (past, up_past p q qs t past))
    ]

up_low : (p : Point) (ps : List Point) (t : ℕ) → p.tick ≤ t → Ahead p.tick ps → Climbs p.volume ps → p.volume ≤ up p ps t
up_low p [] t low a c = omega (arith, up_last p t)
up_low p (q ∷ qs) t low a c =
    let c0 : p.volume ≤ q.volume = c.0 in
    let a0 : p.tick < q.tick = a.0 in
    elim (up_where p q qs t low a) [
      | inl w ↦ omega (arith, w.1)
      | inr r ↦ elim r [
        | inl w ↦ omega (arith, w.2, up_from p q t low (omega (arith, w.1)) a0 c0)
        | inr w ↦ omega (arith, w.1, up_low q qs t w.0 a.1 c.1)
      ]
    ]

up_few : (p : Point) (ps : List Point) (t : ℕ) → p.tick ≤ t → Ahead p.tick ps → Climbs p.volume ps → Small (p ∷ ps) → up p ps t ≤ 100000
up_few p [] t low a c s = omega (arith, up_last p t, s.0)
up_few p (q ∷ qs) t low a c s =
    let c0 : p.volume ≤ q.volume = c.0 in
    let a0 : p.tick < q.tick = a.0 in
    let s0 : p.volume ≤ 100000 = s.0 in
    let s1 : q.volume ≤ 100000 = s.1.0 in
    elim (up_where p q qs t low a) [
      | inl w ↦ omega (arith, w.1)
      | inr r ↦ elim r [
        | inl w ↦ omega (arith, w.2, up_to p q t low (omega (arith, w.1)) a0 c0)
        | inr w ↦ omega (arith, w.1, up_few q qs t w.0 a.1 c.1 s.1)
      ]
    ]

up_rises : (p : Point) (ps : List Point) (t u : ℕ) → p.tick ≤ t → t ≤ u → Ahead p.tick ps → Climbs p.volume ps → up p ps t ≤ up p ps u
up_rises p [] t u low le a c = omega (arith, up_last p t, up_last p u)
up_rises p (q ∷ qs) t u low le a c =
    let c0 : p.volume ≤ q.volume = c.0 in
    let a0 : p.tick < q.tick = a.0 in
    elim (up_where p q qs t low a) [
      | inl w ↦ omega (arith, w.1, up_low p (q ∷ qs) u (omega arith) a c)
      | inr r ↦ elim r [
        | inl w ↦
            let t0 : t < q.tick = w.1 in
            let t1 : p.tick < t = w.0 in
            elim (up_where p q qs u (omega arith) a) [
              | inl z ↦ absurd (omega (arith, z.0))
              | inr z ↦ elim z [
                | inl x ↦ omega (arith, w.2, x.2, straight_rises p q t u low le (omega (arith, x.1)) a0 c0)
                | inr x ↦ omega (arith, w.2, x.1, up_to p q t low (omega arith) a0 c0, up_low q qs u x.0 a.1 c.1)
              ]
            ]
        | inr w ↦
            let past : q.tick ≤ u = omega (arith, w.0) in
            omega (arith, w.1, up_past p q qs u past, up_rises q qs t u w.0 le a.1 c.1)
      ]
    ]

-- a buy order above its pair p
abbrev pub down : Point → List Point → ℕ → ℕ
down p ps t = inside (p ∷ ps) t (first_above ps t)

pub down_last : (p : Point) (t : ℕ) → down p [] t ≡ 0
unfolding inside first_above
down_last p t = refl

pub down_at : (p q : Point) (qs : List Point) (t : ℕ) → t ≡ q.tick → Ahead q.tick qs → down p (q ∷ qs) t ≡ q.volume
unfolding first_above
down_at p q qs t e a =
    inside_past p q qs t _ (omega arith)
    ∙ (inside_before q qs t _ (omega arith) a ∙ cond-true (nat_le t q.tick) q.volume (first_above qs t) (le-leb t q.tick (omega arith)))

pub down_past : (p q : Point) (qs : List Point) (t : ℕ) → q.tick < t → down p (q ∷ qs) t ≡ down q qs t
unfolding first_above
down_past p q qs t h =
    inside_past p q qs t _ (omega arith)
    ∙ ap (inside (q ∷ qs) t) (cond-false (nat_le t q.tick) q.volume (first_above qs t) (lt-leb t q.tick h))

down_where : (p q : Point) (qs : List Point) (t : ℕ) → p.tick < t → Ahead p.tick (q ∷ qs) →
    ((t < q.tick) × (down p (q ∷ qs) t ≡ straight p q t)) ⊎ (((t ≡ q.tick) × (down p (q ∷ qs) t ≡ q.volume)) ⊎ ((q.tick < t) × (down p (q ∷ qs) t ≡ down q qs t)))
down_where p q qs t low a =
    elim (cases_lt t q.tick) [
      | inl lt ↦ inl (lt, inside_here p q qs t _ low lt)
      | inr ge ↦ elim (cases_lt q.tick t) [
        | inl past ↦ inr (inr (past, down_past p q qs t past))
        | inr le ↦ let e : t ≡ q.tick = omega arith in inr (inl (e, down_at p q qs t e a.1))
      ]
    ]

down_high : (p : Point) (ps : List Point) (t : ℕ) → p.tick < t → Ahead p.tick ps → Sinks p.volume ps → down p ps t ≤ p.volume
down_high p [] t low a c = omega (arith, down_last p t)
down_high p (q ∷ qs) t low a c =
    let c0 : q.volume ≤ p.volume = c.0 in
    let a0 : p.tick < q.tick = a.0 in
    elim (down_where p q qs t low a) [
      | inl w ↦ omega (arith, w.1, down_from p q t (omega arith) (omega (arith, w.0)) a0 c0)
      | inr r ↦ elim r [
        | inl w ↦ omega (arith, w.1)
        | inr w ↦ omega (arith, w.1, down_high q qs t w.0 a.1 c.1)
      ]
    ]

down_falls : (p : Point) (ps : List Point) (t u : ℕ) → p.tick < t → t ≤ u → Ahead p.tick ps → Sinks p.volume ps → down p ps u ≤ down p ps t
down_falls p [] t u low le a c = omega (arith, down_last p t, down_last p u)
down_falls p (q ∷ qs) t u low le a c =
    let c0 : q.volume ≤ p.volume = c.0 in
    let a0 : p.tick < q.tick = a.0 in
    elim (down_where p q qs u (omega arith) a) [
      | inl w ↦
          let u0 : u < q.tick = w.0 in
          let here : down p (q ∷ qs) t ≡ straight p q t = inside_here p q qs t _ low (omega arith) in
          omega (arith, w.1, here, straight_falls p q t u (omega arith) le (omega arith) a0 c0)
      | inr r ↦ elim r [
        | inl w ↦ elim (down_where p q qs t low a) [
          | inl x ↦ omega (arith, w.1, x.1, down_to p q t (omega arith) (omega (arith, x.0)) a0 c0)
          | inr z ↦ elim z [
            | inl x ↦ omega (arith, w.1, x.1)
            | inr x ↦ absurd (omega (arith, x.0, w.0))
          ]
        ]
        | inr w ↦
            let rest = down_high q qs u w.0 a.1 c.1 in
            elim (down_where p q qs t low a) [
              | inl x ↦ omega (arith, w.1, x.1, rest, down_to p q t (omega arith) (omega (arith, x.0)) a0 c0)
              | inr z ↦ elim z [
                | inl x ↦ omega (arith, w.1, x.1, rest)
                | inr x ↦ omega (arith, w.1, x.1, down_falls q qs t u x.0 le a.1 c.1)
              ]
            ]
      ]
    ]

-- the whole order
pub sell_where : (p : Point) (ps : List Point) (t : ℕ) → Ahead p.tick ps →
    ((t < p.tick) × (line_shows Sell (p ∷ ps) t ≡ 0)) ⊎ ((p.tick ≤ t) × (line_shows Sell (p ∷ ps) t ≡ up p ps t))
unfolding last_below
sell_where p ps t a = elim (cases_lt t p.tick) [
  | inl lt ↦ inl (lt, inside_before p ps t _ (omega arith) a ∙ below_before (p ∷ ps) t 0 t (omega arith) (lt, a))
  | inr ge ↦ inr (ge, ap (λ (v : ℕ). inside (p ∷ ps) t (last_below ps t v)) (cond-true (nat_le p.tick t) p.volume 0 (le-leb p.tick t ge)))
]

pub buy_where : (p : Point) (ps : List Point) (t : ℕ) → Ahead p.tick ps →
    ((t ≤ p.tick) × (line_shows Buy (p ∷ ps) t ≡ p.volume)) ⊎ ((p.tick < t) × (line_shows Buy (p ∷ ps) t ≡ down p ps t))
unfolding first_above
buy_where p ps t a = elim (cases_lt p.tick t) [
  | inl lt ↦ inr (lt, ap (inside (p ∷ ps) t) (cond-false (nat_le t p.tick) p.volume (first_above ps t) (lt-leb t p.tick lt)))
  | inr le ↦ inl (le, inside_before p ps t _ le a ∙ cond-true (nat_le t p.tick) p.volume (first_above ps t) (le-leb t p.tick le))
]

sell_rises : (ps : List Point) (t u : ℕ) → ordered Sell ps ≡ true → t ≤ u → line_shows Sell ps t ≤ line_shows Sell ps u
unfolding inside last_below
sell_rises [] t u h le = omega arith
sell_rises (p ∷ ps) t u h le =
    let a = ahead_after Sell p ps h in
    elim (sell_where p ps t a) [
      | inl w ↦ omega (arith, w.1)
      | inr w ↦ elim (sell_where p ps u a) [
        | inl x ↦ absurd (omega (arith, w.0, x.0))
        | inr x ↦ omega (arith, w.1, x.1, up_rises p ps t u w.0 le a (climbs_after p ps h))
      ]
    ]

buy_falls : (ps : List Point) (t u : ℕ) → ordered Buy ps ≡ true → t ≤ u → line_shows Buy ps u ≤ line_shows Buy ps t
unfolding inside first_above
buy_falls [] t u h le = omega arith
buy_falls (p ∷ ps) t u h le =
    let a = ahead_after Buy p ps h in
    let c = sinks_after p ps h in
    elim (buy_where p ps u a) [
      | inl w ↦ elim (buy_where p ps t a) [
        | inl x ↦ omega (arith, w.1, x.1)
        | inr x ↦ absurd (omega (arith, w.0, x.0))
      ]
      | inr w ↦ elim (buy_where p ps t a) [
        | inl x ↦ omega (arith, w.1, x.1, down_high p ps u w.0 a c)
        | inr x ↦ omega (arith, w.1, x.1, down_falls p ps t u x.0 le a c)
      ]
    ]

pub line_few : (side : Side) (ps : List Point) (t : ℕ) → Small ps → ordered side ps ≡ true → line_shows side ps t ≤ 100000
unfolding inside first_above last_below
line_few Buy [] t s h = omega arith
line_few Sell [] t s h = omega arith
line_few Buy (p ∷ ps) t s h =
    let a = ahead_after Buy p ps h in
    let s0 : p.volume ≤ 100000 = s.0 in
    elim (buy_where p ps t a) [
      | inl w ↦ omega (arith, w.1)
      | inr w ↦ omega (arith, w.1, down_high p ps t w.0 a (sinks_after p ps h))
    ]
line_few Sell (p ∷ ps) t s h =
    let a = ahead_after Sell p ps h in
    elim (sell_where p ps t a) [
      | inl w ↦ omega (arith, w.1)
      | inr w ↦ omega (arith, w.1, up_few p ps t w.0 a (climbs_after p ps h) s)
    ]

pub line_turned : (side : Side) (ps : List Point) → ordered side ps ≡ true → Turned side (line_shows side ps)
line_turned Buy ps h = λ t u a b c. buy_falls ps t u h b
line_turned Sell ps h = λ t u a b c. sell_rises ps t u h b

pub line_bounded : (side : Side) (ps : List Point) → Small ps → ordered side ps ≡ true → Greatest (line_shows side ps) (line_shows side ps (open_end side))
line_bounded Buy ps s h = record {
  bounds = λ t a b. buy_falls ps 1 t h a;
  at = 1;
  low = omega arith;
  high = omega arith;
  attained = refl;
  small = omega (arith, line_few Buy ps 1 s h);
}
line_bounded Sell ps s h = record {
  bounds = λ t a b. sell_rises ps t 300000 h b;
  at = 300000;
  low = omega arith;
  high = omega arith;
  attained = refl;
  small = omega (arith, line_few Sell ps 300000 s h);
}

-- one piece of a walk over neighbours
pub inside_step : (ps : List Pair) (i t v : ℕ) (p q : Pair) → 1 ≤ i → i < length ps → p ≡ slice_index_or ps (i - 1) p → q ≡ slice_index_or ps i q →
    inside (points (drop (i - 1) ps)) t v ≡ cond (nat_lt p.tick t && nat_lt t q.tick) (straight (point p) (point q) t) (inside (points (drop i ps)) t v)
unfolding inside
inside_step ps i t v p q low h ep eq =
    let k : i - 1 + 1 ≡ i = omega arith in
    let first : drop (i - 1) ps ≡ p ∷ drop i ps = drop_more ps (i - 1) p (omega arith) ∙ (ap (λ (r : Pair). r ∷ drop (i - 1 + 1) ps) (sym ep) ∙ ap (λ (n : ℕ). p ∷ drop n ps) k) in
    let second : drop i ps ≡ q ∷ drop (i + 1) ps = drop_more ps i q h ∙ ap (λ (r : Pair). r ∷ drop (i + 1) ps) (sym eq) in
    ap (λ (xs : List Pair). inside (points xs) t v) (first ∙ ap (λ (xs : List Pair). p ∷ xs) second)
    ∙ ap (λ (xs : List Pair). cond (nat_lt p.tick t && nat_lt t q.tick) (straight (point p) (point q) t) (inside (points xs) t v)) (sym second)

pub inside_end : (ps : List Pair) (i t v : ℕ) → length ps ≤ i + 1 → inside (points (drop i ps)) t v ≡ v
unfolding inside
inside_end [] zero t v h = refl
inside_end [] (suc i) t v h = refl
inside_end (p ∷ []) zero t v h = refl
inside_end (p ∷ q ∷ ps) zero t v h = absurd (omega arith)
inside_end (p ∷ ps) (suc i) t v h = inside_end ps i t v (omega arith)
