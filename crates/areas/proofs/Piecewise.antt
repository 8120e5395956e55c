-- The area of an order with pairs, piece by piece.
use Rattle.std.proofs.Common.{◌≡◌, ℕ, suc, ◌+◌, ◌-◌, ◌*◌, ◌<◌, ◌≤◌, min, max, true, ◌&&◌, ltb, List, [], ◌∷◌, length, get_or, take, zip, length-take-le, sym, refl, ap, ◌∙◌, inl, inr, arith}
use Rattle.std.proofs.lemmas.List.{get_or-take}
use Rattle.std.proofs.lemmas.List.Sums.{sum_by-cons}
use Rattle.std.proofs.lemmas.Bool.{cases_lt, and_parts, ltb-true}
use Rattle.areas.specs.Area.{sum_from, area_of}
use Rattle.areas.specs.Runs.{Way, run_shows, between, piece_area, piece_sum, row_sum, flat_ticks}
use Rattle.areas.proofs.Terraces.{piece_is}
use Rattle.areas.proofs.Sums.{sum_same, sum_flat, sum_cut, sum_none, sum_fits}
use Rattle.areas.proofs.Running.{run_few, onward, onward_here, onward_past, onward_last, sell_before, sell_from, upward, upward_here, upward_past, upward_last, buy_until, buy_after}
use Rattle.curves.specs.declared.sides.Side.{Side}
use Rattle.curves.specs.declared.sides.Side.TheVariants.{Buy, Sell}
use Rattle.curves.specs.declared.pairs.Pair.{Pair}
use Rattle.curves.specs.declared.chains.Chain.{Chain}
use Rattle.curves.specs.Chained.{chain_of}
use Rattle.curves.specs.Points.{Point}
use Rattle.curves.specs.Sequences.{ordered, turns}
use Rattle.curves.specs.Views.{point, points}
use Rattle.curves.specs.Stepped.{small_points}
use Rattle.curves.specs.Lined.{Ahead, ahead_after}

-- what a sell order shows from its first pair on, below the price
abbrev pub rest_below : Way → List Point → ℕ → ℕ
rest_below way [] price = 0
rest_below way (p ∷ ps) price = sum_from (onward way p ps) (price - p.tick) p.tick

below_piece : (way : Way) (p q : Point) (qs : List Point) (price : ℕ) → Ahead p.tick (q ∷ qs) →
    rest_below way (p ∷ q ∷ qs) price ≡ piece_area Sell way p q price + rest_below way (q ∷ qs) price
below_piece way p q qs price a =
    let a0 : p.tick < q.tick = a.0 in
    let line : ℕ → ℕ = between Sell way p q in
    elim (cases_lt price q.tick) [
      | inl lt ↦
          let m : min q.tick price - p.tick ≡ price - p.tick = omega arith in
          let z = sum_none (onward way q qs) (price - q.tick) q.tick (omega arith) in
          let s : sum_from (onward way p (q ∷ qs)) (price - p.tick) p.tick ≡ sum_from line (price - p.tick) p.tick =
          sum_same (onward way p (q ∷ qs)) line (price - p.tick) p.tick (λ w l h. onward_here way p q qs w l (omega arith) a) in
          let r : sum_from line (min q.tick price - p.tick) p.tick ≡ sum_from line (price - p.tick) p.tick = ap (λ (x : ℕ). sum_from line x p.tick) m in
          omega (arith, z, s, r)
      | inr ge ↦
          let m : min q.tick price - p.tick ≡ q.tick - p.tick = omega arith in
          let r : sum_from line (min q.tick price - p.tick) p.tick ≡ sum_from line (q.tick - p.tick) p.tick = ap (λ (x : ℕ). sum_from line x p.tick) m in
          let s = sum_cut (onward way p (q ∷ qs)) line (onward way q qs) (price - p.tick) (q.tick - p.tick) (price - q.tick) p.tick q.tick (omega arith) (omega arith)
          (λ w l h. onward_here way p q qs w l h a) (λ w l h. onward_past way p q qs w l) in
          omega (arith, r, s)
    ]

below_end : (way : Way) (p : Point) (price : ℕ) → rest_below way (p ∷ []) price ≡ p.volume * (price - p.tick)
below_end way p price = sum_flat (onward way p []) p.volume (price - p.tick) p.tick (λ w l h. onward_last way p w)

below_all : (way : Way) (p : Point) (ps : List Point) (price : ℕ) → 1 ≤ p.tick → ordered Sell (p ∷ ps) ≡ true → area_of Sell (run_shows way Sell (p ∷ ps)) price ≡ rest_below way (p ∷ ps) price
below_all way p ps price low h =
    let a = ahead_after Sell p ps h in
    elim (cases_lt price p.tick) [
      | inl lt ↦
          let z = sum_none (onward way p ps) (price - p.tick) p.tick (omega arith) in
          let s = sum_flat (run_shows way Sell (p ∷ ps)) 0 (price - 1) 1 (λ w l h'. sell_before way p ps w a (omega arith)) in
          omega (arith, z, s)
      | inr ge ↦
          let s = sum_cut (run_shows way Sell (p ∷ ps)) (λ _. 0) (onward way p ps) (price - 1) (p.tick - 1) (price - p.tick) 1 p.tick (omega arith) (omega arith)
          (λ w l h'. sell_before way p ps w a h') (λ w l h'. sell_from way p ps w a l) in
          let z = sum_flat (λ _. 0) 0 (p.tick - 1) 1 (λ _ _ _. refl) in
          omega (arith, s, z)
    ]

-- what a buy order shows above its first pair and above the price
abbrev pub rest_above : Way → List Point → ℕ → ℕ
rest_above way [] price = 0
rest_above way (p ∷ ps) price = sum_from (upward way p ps) (300000 - max price p.tick) (max price p.tick + 1)

above_piece : (way : Way) (p q : Point) (qs : List Point) (price : ℕ) → q.tick ≤ 300000 → Ahead p.tick (q ∷ qs) →
    rest_above way (p ∷ q ∷ qs) price ≡ piece_area Buy way p q price + rest_above way (q ∷ qs) price
above_piece way p q qs price top a =
    let a0 : p.tick < q.tick = a.0 in
    let line : ℕ → ℕ = between Buy way p q in
    let from : ℕ = max price p.tick in
    let tail : ℕ → ℕ = λ x. sum_from (upward way q qs) (300000 - x) (x + 1) in
    elim (cases_lt price q.tick) [
      | inl lt ↦
          let m : max price q.tick ≡ q.tick = omega arith in
          let r : tail (max price q.tick) ≡ tail q.tick = ap tail m in
          let s = sum_cut (upward way p (q ∷ qs)) line (upward way q qs) (300000 - from) (q.tick - from) (300000 - q.tick) (from + 1) (q.tick + 1) (omega arith) (omega arith)
          (λ w l h. upward_here way p q qs w (omega arith) (omega arith) a) (λ w l h. upward_past way p q qs w (omega arith)) in
          omega (arith, r, s)
      | inr ge ↦
          let z = sum_none line (q.tick - from) (from + 1) (omega arith) in
          let m : max price q.tick ≡ from = omega arith in
          let r : tail (max price q.tick) ≡ tail from = ap tail m in
          let s = sum_same (upward way p (q ∷ qs)) (upward way q qs) (300000 - from) (from + 1) (λ w l h. upward_past way p q qs w (omega arith)) in
          omega (arith, z, r, s)
    ]

above_end : (way : Way) (p : Point) (price : ℕ) → rest_above way (p ∷ []) price ≡ 0
above_end way p price = sum_flat (upward way p []) 0 (300000 - max price p.tick) (max price p.tick + 1) (λ w l h. upward_last way p w) ∙ omega arith

above_all : (way : Way) (p : Point) (ps : List Point) (price : ℕ) → p.tick ≤ 300000 → ordered Buy (p ∷ ps) ≡ true →
    area_of Buy (run_shows way Buy (p ∷ ps)) price ≡ p.volume * (p.tick - price) + rest_above way (p ∷ ps) price
above_all way p ps price top h =
    let a = ahead_after Buy p ps h in
    let tail : ℕ → ℕ = λ x. sum_from (upward way p ps) (300000 - x) (x + 1) in
    elim (cases_lt price p.tick) [
      | inl lt ↦
          let m : max price p.tick ≡ p.tick = omega arith in
          let r : tail (max price p.tick) ≡ tail p.tick = ap tail m in
          let s = sum_cut (run_shows way Buy (p ∷ ps)) (λ _. p.volume) (upward way p ps) (300000 - price) (p.tick - price) (300000 - p.tick) (price + 1) (p.tick + 1) (omega arith) (omega arith)
          (λ w l h'. buy_until way p ps w a (omega arith)) (λ w l h'. buy_after way p ps w a (omega arith)) in
          let z = sum_flat (λ _. p.volume) p.volume (p.tick - price) (price + 1) (λ _ _ _. refl) in
          omega (arith, r, s, z)
      | inr ge ↦
          let m : max price p.tick ≡ price = omega arith in
          let r : tail (max price p.tick) ≡ tail price = ap tail m in
          let s = sum_same (run_shows way Buy (p ∷ ps)) (upward way p ps) (300000 - price) (price + 1) (λ w l h'. buy_after way p ps w a (omega arith)) in
          let n : p.tick - price ≡ 0 = omega arith in
          let z : p.volume * (p.tick - price) ≡ 0 = ap (λ (x : ℕ). p.volume * x) n ∙ omega arith in
          omega (arith, r, s, z)
    ]

-- the last pair of a row
abbrev pub last : Pair → List Pair → Pair
last p [] = p
last p (q ∷ qs) = last q qs

pub last_at : (p : Pair) (ps : List Pair) (d : Pair) → get_or (p ∷ ps) (length ps) d ≡ last p ps
last_at p [] d = refl
last_at p (q ∷ qs) d = last_at q qs d

-- one piece more
row_more : (side : Side) (way : Way) (p q : Pair) (ps : List Pair) (price : ℕ) → ordered side (points (p ∷ q ∷ ps)) ≡ true → row_sum side way (p ∷ q ∷ ps) price ≡ piece_area side way (point p) (point q) price + row_sum side way (q ∷ ps) price
unfolding ordered
row_more side way p q ps price h =
    let here = and_parts (ltb p.tick q.tick) (turns side p.volume q.volume) (and_parts (ltb p.tick q.tick && turns side p.volume q.volume) (ordered side (points (q ∷ ps))) h).0 in
    omega (arith, sum_by-cons (λ w. piece_sum side way (point w.0) (point w.1) price) (p, q) (zip (q ∷ ps) ps), piece_is side way (point p) (point q) price (ltb-true p.tick q.tick here.0) here.1)

-- the rest of a row in order is in order
later : (side : Side) (p q : Pair) (ps : List Pair) → ordered side (points (p ∷ q ∷ ps)) ≡ true → ordered side (points (q ∷ ps)) ≡ true
unfolding ordered
later side p q ps h = (and_parts (ltb p.tick q.tick && turns side p.volume q.volume) (ordered side (points (q ∷ ps))) h).1

below_pieces : (way : Way) (p : Pair) (ps : List Pair) (price : ℕ) → ordered Sell (points (p ∷ ps)) ≡ true → rest_below way (points (p ∷ ps)) price ≡ row_sum Sell way (p ∷ ps) price + (last p ps).volume * (price - (last p ps).tick)
below_pieces way p [] price h = omega (arith, below_end way (point p) price)
below_pieces way p (q ∷ qs) price h =
    omega (arith, below_piece way (point p) (point q) (points qs) price (ahead_after Sell (point p) (points (q ∷ qs)) h), below_pieces way q qs price (later Sell p q qs h), row_more Sell way p q qs price h)

above_pieces : (way : Way) (p : Pair) (ps : List Pair) (price : ℕ) → ordered Buy (points (p ∷ ps)) ≡ true → rest_above way (points (p ∷ ps)) price ≡ row_sum Buy way (p ∷ ps) price
above_pieces way p [] price h = above_end way (point p) price
above_pieces way p (q ∷ qs) price h =
    omega (arith, above_piece way (point p) (point q) (points qs) price q.high (ahead_after Buy (point p) (points (q ∷ qs)) h), above_pieces way q qs price (later Buy p q qs h), row_more Buy way p q qs price h)

-- where the pair stands beyond which the volume stays
abbrev pub end_at : Side → ℕ → ℕ
end_at Buy n = 0
end_at Sell n = n - 1

-- the area is that of the pieces and of what that pair shows
pub row_whole : (side : Side) (way : Way) (ps : List Pair) (price : ℕ) (end : Pair) → 1 ≤ length ps → end ≡ get_or ps (end_at side (length ps)) end → ordered side (points ps) ≡ true →
    area_of side (run_shows way side (points ps)) price ≡ row_sum side way ps price + end.volume * flat_ticks side (point end) price
row_whole side way [] price end some at h = absurd (omega arith)
row_whole Buy way (p ∷ ps) price end some at h =
    let flat : end.volume * (end.tick - price) ≡ p.volume * (p.tick - price) = ap (λ (x : Pair). x.volume * (x.tick - price)) at in
    omega (arith, above_all way (point p) (points ps) price p.high h, above_pieces way p ps price h, flat)
row_whole Sell way (p ∷ ps) price end some at h =
    let k : suc (length ps) - 1 ≡ length ps = omega arith in
    let is : end ≡ last p ps = at ∙ ap (λ (n : ℕ). get_or (p ∷ ps) n end) k ∙ last_at p ps end in
    let flat : end.volume * (price - end.tick) ≡ (last p ps).volume * (price - (last p ps).tick) = ap (λ (x : Pair). x.volume * (price - x.tick)) is in
    omega (arith, below_all way (point p) (points ps) price p.low h, below_pieces way p ps price h, flat)

-- an area fits
pub area_fits : (way : Way) (side : Side) (ps : List Pair) (price : ℕ) → price ≤ 300000 → ordered side (points ps) ≡ true → area_of side (run_shows way side (points ps)) price ≤ 30000000000
area_fits way Buy ps price h o = sum_fits (run_shows way Buy (points ps)) (300000 - price) (price + 1) (omega arith) (λ u. run_few way Buy (points ps) u (small_points ps) o)
area_fits way Sell ps price h o = sum_fits (run_shows way Sell (points ps)) (price - 1) 1 (omega arith) (λ u. run_few way Sell (points ps) u (small_points ps) o)

end_below : (side : Side) (n : ℕ) → 1 ≤ n → end_at side n < n
end_below Buy n some = omega arith
end_below Sell n some = omega arith

-- the same of a chain
pub chain_whole : (way : Way) (c : Chain) (price : ℕ) (end : Pair) → length c.pairs ≡ 8 → end ≡ get_or c.pairs (end_at c.side c.count) end →
    area_of c.side (run_shows way c.side (chain_of c)) price ≡ row_sum c.side way (take c.count c.pairs) price + end.volume * flat_ticks c.side (point end) price
chain_whole way c price end eight at =
    let long : length (take c.count c.pairs) ≡ c.count = length-take-le c.count c.pairs (omega (arith, c.fits)) in
    row_whole c.side way (take c.count c.pairs) price end (omega (arith, c.some))
    (at ∙ sym (get_or-take c.count c.pairs (end_at c.side c.count) end (end_below c.side c.count c.some)) ∙ ap (λ (n : ℕ). get_or (take c.count c.pairs) (end_at c.side n) end) (sym long))
    c.lined

-- so the pieces alone fit too
pub row_few : (side : Side) (way : Way) (ps : List Pair) (price : ℕ) → price ≤ 300000 → ordered side (points ps) ≡ true → row_sum side way ps price ≤ 30000000000
row_few side way [] price high h = omega arith
row_few Buy way (p ∷ ps) price high h = omega (arith, above_all way (point p) (points ps) price p.high h, above_pieces way p ps price h, area_fits way Buy (p ∷ ps) price high h)
row_few Sell way (p ∷ ps) price high h = omega (arith, below_all way (point p) (points ps) price p.low h, below_pieces way p ps price h, area_fits way Sell (p ∷ ps) price high h)
