-- The price by the two ends of the range without excess.
use Rattle.std.proofs.Common.{◌≡◌, ℕ, ◌+◌, ◌-◌, ◌<◌, ◌≤◌, true, false, cond, not, ltb, ◌⊎◌, min, max, sym, refl, ◌∙◌, subst, inl, inr, arith}
use Rattle.std.proofs.lemmas.Bool.{cases_lt, cond-true, cond-false, ltb-true, ltb-false, leb-true, leb-false, eq-eqb, ne_eqb, lt-ltb, le-ltb, le-leb, lt-leb, not_from_true, not_from_false}
use Rattle.curves.specs.Tables.{Falls, Rises, Turned}
use Rattle.curves.specs.declared.sides.Side.{Side}
use Rattle.curves.specs.declared.sides.Side.TheVariants.{Buy, Sell}
use Rattle.curves.specs.Ladder.{least_tick, highest_tick, some_tick, every_tick}
use Rattle.std.proofs.lemmas.Bool.Decides.{nat_tests}
use Rattle.curves.specs.Halving.{passes}
use Rattle.curves.specs.Price.{even, over, under, nearest, prefer, better, price_of, executed, surplus, Best}
use Rattle.curves.proofs.Ladders.{least_same, Least, least_is, highest_is, least_has}

pub record Parted (b s : ℕ → ℕ) (from past : ℕ) : Type 0 where
  pub low : 1 ≤ from
  pub mid : from ≤ past
  pub high : past ≤ 300001
  pub positive : (t : ℕ) → 1 ≤ t → t < from → s t < b t
  pub level : (t : ℕ) → from ≤ t → t < past → b t ≡ s t
  pub negative : (t : ℕ) → past ≤ t → t ≤ 300000 → b t < s t

pub parted : (b s : ℕ → ℕ) → Falls b → Rises s → Parted b s (least_tick (passes false b s)) (least_tick (passes true b s))
parted b s falls rises =
    let from : ℕ = least_tick (passes false b s) in
    let past : ℕ = least_tick (passes true b s) in
    let F : Least (passes false b s) from = least_has (passes false b s) in
    let P : Least (passes true b s) past = least_has (passes true b s) in
    let positive : (t : ℕ) → 1 ≤ t → t < from → s t < b t = λ t a h. leb-false (b t) (s t) (F.before t a h) in
    let not_positive : (t : ℕ) → from ≤ t → t ≤ 300000 → b t ≤ s t = λ t a h.
    let k : from ≤ 300000 = omega arith in
    omega (arith, leb-true (b from) (s from) (F.here k), falls from t F.low a h, rises from t F.low a h) in
    let not_negative : (t : ℕ) → 1 ≤ t → t < past → s t ≤ b t = λ t a h. ltb-false (b t) (s t) (P.before t a h) in
    let negative : (t : ℕ) → past ≤ t → t ≤ 300000 → b t < s t = λ t a h.
    let k : past ≤ 300000 = omega arith in
    omega (arith, ltb-true (b past) (s past) (P.here k), falls past t P.low a h, rises past t P.low a h) in
    let mid : from ≤ past = elim (cases_lt past from) [
      | inl lt ↦ let k : past ≤ 300000 = omega (arith, F.high) in absurd (omega (arith, negative past (omega arith) k, positive past P.low lt))
      | inr le ↦ le
    ] in
    record {
      low = F.low;
      mid = mid;
      high = P.high;
      positive = positive;
      negative = negative;
      level = λ t a h. omega (arith, not_positive t a (omega (arith, P.high)), not_negative t (omega (arith, F.low)) h);
    }

-- the same, by what the two searches answered
pub parted_at : (b s : ℕ → ℕ) (sb ss : Side) (from past : ℕ) → sb ≡ Buy → ss ≡ Sell → Turned sb b → Turned ss s → from ≡ least_tick (passes false b s) → past ≡ least_tick (passes true b s) → Parted b s from past
parted_at b s sb ss from past eb es tb ts ef ep =
    let falls : Falls b = subst (λ (x : Side). Turned x b) eb tb in
    let rises : Rises s = subst (λ (x : Side). Turned x s) es ts in
    subst (λ (x : ℕ). Parted b s x past) (sym ef) (subst (λ (x : ℕ). Parted b s (least_tick (passes false b s)) x) (sym ep) (parted b s falls rises))

module _ (b s : ℕ → ℕ) (from past ref : ℕ) (parts : Parted b s from past) where
  pub price_even : from < past → price_of b s ref ≡ nearest from (past - 1) ref
  unfolding price_of
  price_even lt =
      let least : least_tick (even b s) ≡ from = least_is (even b s) from parts.low (omega (arith, parts.high))
      (λ u a h. ne_eqb (b u) (s u) (λ e. omega (arith, parts.positive u a h)))
      (λ h. eq-eqb (b from) (s from) (parts.level from (omega arith) lt)) in
      let highest : highest_tick (even b s) ≡ past - 1 = highest_is (even b s) (past - 1) (omega (arith, parts.high))
      (λ u a h. ne_eqb (b u) (s u) (λ e. omega (arith, parts.negative u (omega arith) h)))
      (λ h. eq-eqb (b (past - 1)) (s (past - 1)) (parts.level (past - 1) (omega arith) (omega arith))) in
      let some : some_tick (even b s) ≡ true = le-leb (least_tick (even b s)) 300000 (omega (arith, least, parts.high)) in
      cond-true (some_tick (even b s)) _ _ some ∙ rw (least, highest)

  -- where no tick has excess zero
  no_even : past ≤ from → some_tick (even b s) ≡ false
  no_even le =
      let least : least_tick (even b s) ≡ 300001 = least_is (even b s) 300001 (omega arith) (omega arith)
      (λ u a h. ne_eqb (b u) (s u) (λ e. elim (cases_lt u from) [
        | inl lt ↦ omega (arith, parts.positive u a lt)
        | inr ge ↦ omega (arith, parts.negative u (omega arith) (omega arith))
      ]))
      (λ h. absurd (omega arith)) in
      lt-leb (least_tick (even b s)) 300000 (omega (arith, least))

  least_not_over : past ≤ from → least_tick (λ t. not (over b s t)) ≡ from
  least_not_over le =
      least_is (λ t. not (over b s t)) from parts.low (omega (arith, parts.mid, parts.high))
      (λ u a h. not_from_true (over b s u) (lt-ltb (s u) (b u) (parts.positive u a h)))
      (λ h. not_from_false (over b s from) (le-ltb (s from) (b from) (omega (arith, parts.negative from le h))))

  pub price_over_ladder : past ≤ from → 300000 < from → price_of b s ref ≡ 300000
  unfolding price_of
  price_over_ladder le far =
      let none : some_tick (λ t. not (over b s t)) ≡ false = lt-leb _ 300000 (omega (arith, least_not_over le)) in
      cond-false (some_tick (even b s)) _ _ (no_even le)
      ∙ cond-true (every_tick (over b s)) _ _ (not_from_false _ none)

  not_every_over : past ≤ from → from ≤ 300000 → every_tick (over b s) ≡ false
  not_every_over le near = not_from_true _ (le-leb (least_tick (λ t. not (over b s t))) 300000 (omega (arith, least_not_over le)))

  pub price_under : past ≤ from → from ≡ 1 → price_of b s ref ≡ 1
  unfolding price_of
  price_under le first =
      let least : least_tick (λ t. not (under b s t)) ≡ 300001 = least_is (λ t. not (under b s t)) 300001 (omega arith) (omega arith)
      (λ u a h. not_from_true (under b s u) (lt-ltb (b u) (s u) (parts.negative u (omega arith) (omega arith))))
      (λ h. absurd (omega arith)) in
      let none : some_tick (λ t. not (under b s t)) ≡ false = lt-leb _ 300000 (omega (arith, least)) in
      cond-false (some_tick (even b s)) _ _ (no_even le)
      ∙ (cond-false (every_tick (over b s)) _ _ (not_every_over le (omega arith))
      ∙ cond-true (every_tick (under b s)) _ _ (not_from_false _ none))

  pub price_turn : past ≤ from → 1 < from → from ≤ 300000 → price_of b s ref ≡ better b s (from - 1) (from - 1 + 1) ref
  unfolding price_of
  price_turn le more near =
      let least : least_tick (λ t. not (under b s t)) ≡ 1 = least_is (λ t. not (under b s t)) 1 (omega arith) (omega arith)
      (λ u a h. absurd (omega arith))
      (λ h. not_from_false (under b s 1) (le-ltb (b 1) (s 1) (omega (arith, parts.positive 1 (omega arith) more)))) in
      let some : some_tick (λ t. not (under b s t)) ≡ true = le-leb _ 300000 (omega (arith, least)) in
      let highest : highest_tick (over b s) ≡ from - 1 = highest_is (over b s) (from - 1) (omega arith)
      (λ u a h. le-ltb (s u) (b u) (omega (arith, parts.negative u (omega arith) h)))
      (λ h. lt-ltb (s (from - 1)) (b (from - 1)) (parts.positive (from - 1) h (omega arith))) in
      cond-false (some_tick (even b s)) _ _ (no_even le)
      ∙ (cond-false (every_tick (over b s)) _ _ (not_every_over le near)
      ∙ (cond-false (every_tick (under b s)) _ _ (not_from_true _ some)
      ∙ rw highest))

pub prefer_cases : (eh sh el sl h l ref : ℕ) → ((prefer eh sh el sl h l ref ≡ h) × (el ≤ eh) × (el ≡ eh → sh ≤ sl)) ⊎ ((prefer eh sh el sl h l ref ≡ l) × (eh ≤ el) × (eh ≡ el → sl ≤ sh))
prefer_cases eh sh el sl h l ref =
    elim (cases_lt el eh) [
      | inl a ↦ inl (cond-true (ltb el eh) _ _ (lt-ltb el eh a), omega arith, λ e. omega arith)
      | inr a ↦ let a' = cond-false (ltb el eh) h (cond (ltb eh el) l (cond (ltb sh sl) h (cond (ltb sl sh) l (cond (ltb h ref) l h)))) (le-ltb el eh a) in
          elim (cases_lt eh el) [
            | inl b ↦ inr (a' ∙ cond-true (ltb eh el) _ _ (lt-ltb eh el b), omega arith, λ e. omega arith)
            | inr b ↦ let b' = a' ∙ cond-false (ltb eh el) l (cond (ltb sh sl) h (cond (ltb sl sh) l (cond (ltb h ref) l h))) (le-ltb eh el b) in
                elim (cases_lt sh sl) [
                  | inl c ↦ inl (b' ∙ cond-true (ltb sh sl) _ _ (lt-ltb sh sl c), omega arith, λ e. omega arith)
                  | inr c ↦ let c' = b' ∙ cond-false (ltb sh sl) h (cond (ltb sl sh) l (cond (ltb h ref) l h)) (le-ltb sh sl c) in
                      elim (cases_lt sl sh) [
                        | inl d ↦ inr (c' ∙ cond-true (ltb sl sh) _ _ (lt-ltb sl sh d), omega arith, λ e. omega arith)
                        | inr d ↦ let d' = c' ∙ cond-false (ltb sl sh) l (cond (ltb h ref) l h) (le-ltb sl sh d) in
                            elim (cases_lt h ref) [
                              | inl f ↦ inr (d' ∙ cond-true (ltb h ref) _ _ (lt-ltb h ref f), omega arith, λ e. omega arith)
                              | inr f ↦ inl (d' ∙ cond-false (ltb h ref) _ _ (le-ltb h ref f), omega arith, λ e. omega arith)
                            ]
                      ]
                ]
          ]
    ]

pub nearest_within : (lo hi ref : ℕ) → lo ≤ hi → (lo ≤ nearest lo hi ref) × (nearest lo hi ref ≤ hi)
nearest_within lo hi ref h = grind (arith, nat_tests)

pub nearest_clamped : (lo hi ref : ℕ) → lo ≤ hi → nearest lo hi ref ≡ max lo (min ref hi)
nearest_clamped lo hi ref h = grind (arith, nat_tests)

-- a tick of the ladder at which nothing is left to gain
pub record Settled (b s : ℕ → ℕ) (p : ℕ) : Type 0 where
  pub low : 1 ≤ p
  pub high : p ≤ 300000
  pub best : Best b s p

module _ (b s : ℕ → ℕ) (falls : Falls b) (rises : Rises s) where
  best_even : (p : ℕ) → 1 ≤ p → p ≤ 300000 → b p ≡ s p → Best b s p
  best_even p low high e = record {
    executes = λ t a h. elim (cases_lt t p) [
      | inl lt ↦ omega (arith, rises t p a (omega arith) high)
      | inr ge ↦ omega (arith, falls p t low ge h)
    ];
    leaves = λ t a h same. omega arith;
  }

  -- the best of the ticks up to p is p where the excess is positive
  best_over : (p t : ℕ) → 1 ≤ t → t ≤ p → p ≤ 300000 → s p < b p → (executed b s t ≤ executed b s p) × (executed b s t ≡ executed b s p → surplus b s p ≤ surplus b s t)
  best_over p t a h high pos =
      let f = falls t p a h high in
      let r = rises t p a h high in
      (omega arith, λ e. omega arith)

  best_under : (p t : ℕ) → 1 ≤ p → p ≤ t → t ≤ 300000 → b p < s p → (executed b s t ≤ executed b s p) × (executed b s t ≡ executed b s p → surplus b s p ≤ surplus b s t)
  best_under p t low h high neg =
      let f = falls p t low h high in
      let r = rises p t low h high in
      (omega arith, λ e. omega arith)

  module _ (h : ℕ) (low : 1 ≤ h) (high : h < 300000) (pos : s h < b h) (neg : b (h + 1) < s (h + 1)) where
    best_h : executed b s (h + 1) ≤ executed b s h → (executed b s (h + 1) ≡ executed b s h → surplus b s h ≤ surplus b s (h + 1)) → Best b s h
    best_h more less = record {
      executes = λ t a k. elim (cases_lt h t) [
        | inl lt ↦ let u = (best_under (h + 1) t (omega arith) (omega arith) k neg).0 in omega (arith, u, more)
        | inr ge ↦ (best_over h t a ge (omega arith) pos).0
      ];
      leaves = λ t a k same. elim (cases_lt h t) [
        | inl lt ↦
            let u = best_under (h + 1) t (omega arith) (omega arith) k neg in
            let e : executed b s (h + 1) ≡ executed b s h = omega (arith, u.0, more, same) in
            let v = less e in
            let w = u.1 (same ∙ sym e) in
            omega (arith, v, w)
        | inr ge ↦ (best_over h t a ge (omega arith) pos).1 same
      ];
    }

    best_l : executed b s h ≤ executed b s (h + 1) → (executed b s h ≡ executed b s (h + 1) → surplus b s (h + 1) ≤ surplus b s h) → Best b s (h + 1)
    best_l more less = record {
      executes = λ t a k. elim (cases_lt h t) [
        | inl lt ↦ (best_under (h + 1) t (omega arith) (omega arith) k neg).0
        | inr ge ↦ let u = (best_over h t a ge (omega arith) pos).0 in omega (arith, u, more)
      ];
      leaves = λ t a k same. elim (cases_lt h t) [
        | inl lt ↦ (best_under (h + 1) t (omega arith) (omega arith) k neg).1 same
        | inr ge ↦
            let u = best_over h t a ge (omega arith) pos in
            let e : executed b s h ≡ executed b s (h + 1) = omega (arith, u.0, more, same) in
            let v = less e in
            let w = u.1 (same ∙ sym e) in
            omega (arith, v, w)
      ];
    }

    best_better : (ref : ℕ) → Settled b s (better b s h (h + 1) ref)
    unfolding better
    best_better ref =
        elim (prefer_cases (executed b s h) (surplus b s h) (executed b s (h + 1)) (surplus b s (h + 1)) h (h + 1) ref) [
          | inl q ↦ subst (Settled b s) (sym q.0) (record { low = low; high = omega arith; best = best_h q.1 q.2 })
          | inr q ↦ subst (Settled b s) (sym q.0) (record { low = omega arith; high = omega arith; best = best_l q.1 q.2 })
        ]

  pub settled : (ref : ℕ) → 1 ≤ ref → ref ≤ 300000 → Settled b s (price_of b s ref)
  settled ref a h =
      let from : ℕ = least_tick (passes false b s) in
      let past : ℕ = least_tick (passes true b s) in
      let parts : Parted b s from past = parted b s falls rises in
      elim (cases_lt from past) [
        | inl lt ↦
            let n = nearest_within from (past - 1) ref (omega arith) in
            let p : ℕ = nearest from (past - 1) ref in
            let low : 1 ≤ p = omega (arith, n.0, parts.low) in
            let high : p ≤ 300000 = omega (arith, n.1, parts.high) in
            subst (Settled b s) (sym (price_even b s from past ref parts lt))
            (record { low = low; high = high; best = best_even p low high (parts.level p n.0 (omega (arith, n.1))) })
        | inr le ↦ elim (cases_lt 300000 from) [
          | inl far ↦
              let pos : s 300000 < b 300000 = parts.positive 300000 (omega arith) far in
              subst (Settled b s) (sym (price_over_ladder b s from past ref parts le far))
              (record {
                low = omega arith;
                high = omega arith;
                best = record {
                  executes = λ t c k. (best_over 300000 t c k (omega arith) pos).0;
                  leaves = λ t c k. (best_over 300000 t c k (omega arith) pos).1;
                };
              })
          | inr near ↦ elim (cases_lt 1 from) [
            | inl more ↦
                let pos : s (from - 1) < b (from - 1) = parts.positive (from - 1) (omega arith) (omega arith) in
                let neg : b (from - 1 + 1) < s (from - 1 + 1) = parts.negative (from - 1 + 1) (omega arith) (omega arith) in
                subst (Settled b s) (sym (price_turn b s from past ref parts le more near))
                (best_better (from - 1) (omega arith) (omega arith) pos neg ref)
            | inr first ↦
                let neg : b 1 < s 1 = parts.negative 1 (omega (arith, parts.low)) (omega arith) in
                subst (Settled b s) (sym (price_under b s from past ref parts le (omega (arith, parts.low))))
                (record {
                  low = omega arith;
                  high = omega arith;
                  best = record {
                    executes = λ t c k. (best_under 1 t (omega arith) c k neg).0;
                    leaves = λ t c k. (best_under 1 t (omega arith) c k neg).1;
                  };
                })
          ]
        ]
      ]

pub settled_price : (b s : ℕ → ℕ) (sb ss : Side) (ref : ℕ) → sb ≡ Buy → ss ≡ Sell → Turned sb b → Turned ss s → 1 ≤ ref → ref ≤ 300000 → Settled b s (price_of b s ref)
settled_price b s sb ss ref eb es tb ts low high =
    settled b s (subst (λ (x : Side). Turned x b) eb tb) (subst (λ (x : Side). Turned x s) es ts) ref low high

-- the price sees the ticks alone
module _ (b s b' s' : ℕ → ℕ) (falls : Falls b) (rises : Rises s) (falls' : Falls b') (rises' : Rises s')
    (eb : (t : ℕ) → 1 ≤ t → t ≤ 300000 → b t ≡ b' t) (es : (t : ℕ) → 1 ≤ t → t ≤ 300000 → s t ≡ s' t) where
  pub price_same : (ref : ℕ) → price_of b s ref ≡ price_of b' s' ref
  unfolding better
  price_same ref =
      let from : ℕ = least_tick (passes false b s) in
      let past : ℕ = least_tick (passes true b s) in
      let parts : Parted b s from past = parted b s falls rises in
      let ef : from ≡ least_tick (passes false b' s') = least_same (passes false b s) (passes false b' s') (λ u a h. rw (eb u a h, es u a h)) in
      let ep : past ≡ least_tick (passes true b' s') = least_same (passes true b s) (passes true b' s') (λ u a h. rw (eb u a h, es u a h)) in
      let parts' : Parted b' s' from past = parted_at b' s' Buy Sell from past refl refl falls' rises' ef ep in
      elim (cases_lt from past) [
        | inl lt ↦ price_even b s from past ref parts lt ∙ sym (price_even b' s' from past ref parts' lt)
        | inr le ↦ elim (cases_lt 300000 from) [
          | inl far ↦ price_over_ladder b s from past ref parts le far ∙ sym (price_over_ladder b' s' from past ref parts' le far)
          | inr near ↦ elim (cases_lt 1 from) [
            | inl more ↦
                let h : ℕ = from - 1 in
                let bh : b h ≡ b' h = eb h (omega arith) (omega arith) in
                let sh : s h ≡ s' h = es h (omega arith) (omega arith) in
                let bl : b (h + 1) ≡ b' (h + 1) = eb (h + 1) (omega arith) (omega arith) in
                let sl : s (h + 1) ≡ s' (h + 1) = es (h + 1) (omega arith) (omega arith) in
                let mid : better b s h (h + 1) ref ≡ better b' s' h (h + 1) ref = rw (bh, sh, bl, sl) in
                price_turn b s from past ref parts le more near ∙ mid ∙ sym (price_turn b' s' from past ref parts' le more near)
            | inr first ↦
                let one : from ≡ 1 = omega (arith, parts.low) in
                price_under b s from past ref parts le one ∙ sym (price_under b' s' from past ref parts' le one)
          ]
        ]
      ]
