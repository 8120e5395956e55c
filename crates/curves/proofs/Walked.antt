-- The walks along pairs as searches.
use Rattle.std.proofs.Common.{◌≡◌, ℕ, ◌<◌, ◌≤◌, Bool, true, false, cond, ◌&&◌, List, [], ◌∷◌, length, take, drop, get_or, Some, None, Option, refl, sym, ap, ◌∙◌, arith}
use Rattle.std.specs.Prelude.{nat_le, nat_lt, reverse, find}
use Rattle.std.specs.Option.{option_map_or, option_or}
use Rattle.std.proofs.lemmas.List.Folds.{find-append}
use Rattle.std.proofs.lemmas.Grind.{reverse_onto}
use Rattle.curves.specs.declared.pairs.Pair.{Pair}
use Rattle.curves.specs.Views.{point, points}
use Rattle.curves.specs.Lines.{inside, straight}
use Rattle.curves.specs.Steps.{last_below, first_above}

-- the volume of the pair found, else v
abbrev pub volume_or : ℕ → Option Pair → ℕ
volume_or v o = option_map_or (λ (p : Pair). p.volume) o v

volume_or-cond : (b : Bool) (p : Pair) (o : Option Pair) (v : ℕ) → volume_or v (cond b (Some p) o) ≡ cond b p.volume (volume_or v o)
volume_or-cond true p o v = refl
volume_or-cond false p o v = refl

volume_or-or : (a b : Option Pair) (v : ℕ) → volume_or v (option_or a b) ≡ volume_or (volume_or v b) a
volume_or-or (Some p) b v = refl
volume_or-or None b v = refl

pub first_found : (ps : List Pair) (t : ℕ) → volume_or 0 (find (λ (p : Pair). nat_le t p.tick) ps) ≡ first_above (points ps) t
unfolding first_above
first_found [] t = refl
first_found (p ∷ ps) t = volume_or-cond (nat_le t p.tick) p _ 0 ∙ ap (cond (nat_le t p.tick) p.volume) (first_found ps t)

pub last_found : (ps : List Pair) (t v : ℕ) → volume_or v (find (λ (p : Pair). nat_le p.tick t) (reverse ps)) ≡ last_below (points ps) t v
unfolding last_below
last_found [] t v = refl
last_found (p ∷ ps) t v =
    let low : Pair → Bool = λ (q : Pair). nat_le q.tick t in
    ap (λ (xs : List Pair). volume_or v (find low xs)) (reverse_onto ps p [])
    ∙ (ap (volume_or v) (find-append low (reverse ps) (p ∷ []))
    ∙ (volume_or-or (find low (reverse ps)) (find low (p ∷ [])) v
    ∙ (ap (λ (w : ℕ). volume_or w (find low (reverse ps))) (volume_or-cond (nat_le p.tick t) p None v)
    ∙ last_found ps t (cond (nat_le p.tick t) p.volume v))))

-- one turn over windows of two: what is left of the list begins with both
pub neighbours : {A : Type 0} (xs w rest : List A) (n : ℕ) (p q : A) → n ≡ 2 → (n ≤ length xs) × (w ≡ take n xs) × (rest ≡ drop 1 xs) × (length w ≡ n) → p ≡ get_or w 0 p → q ≡ get_or w 1 q → (xs ≡ p ∷ rest) × (rest ≡ q ∷ drop 1 rest)
neighbours [] w rest n p q two s ep eq = absurd (omega (arith, s.0))
neighbours (a ∷ []) w rest n p q two s ep eq = absurd (omega (arith, s.0))
neighbours {A} (a ∷ b ∷ xs) w rest n p q two s ep eq =
    let e : w ≡ a ∷ b ∷ [] = s.1 ∙ ap (λ (m : ℕ). take m (a ∷ b ∷ xs)) two in
    let ea : p ≡ a = ep ∙ ap (λ (v : List A). get_or v 0 p) e in
    let eb : q ≡ b = eq ∙ ap (λ (v : List A). get_or v 1 q) e in
    let er : rest ≡ b ∷ xs = s.2 in
    let ed : drop 1 rest ≡ xs = ap (drop 1) er in
    ((cc), (cc))

pub inside_turn : (xs rest : List Pair) (p q : Pair) (t v : ℕ) → (xs ≡ p ∷ rest) × (rest ≡ q ∷ drop 1 rest) →
    inside (points xs) t v ≡ cond (nat_lt p.tick t && nat_lt t q.tick) (straight (point p) (point q) t) (inside (points rest) t v)
unfolding inside
inside_turn xs rest p q t v e =
    ap (λ (ys : List Pair). inside (points ys) t v) (e.0 ∙ ap (λ (ys : List Pair). p ∷ ys) e.1)
    ∙ ap (λ (ys : List Pair). cond (nat_lt p.tick t && nat_lt t q.tick) (straight (point p) (point q) t) (inside (points ys) t v)) (sym e.1)

pub inside_over : (xs : List Pair) (t v : ℕ) → length xs < 2 → inside (points xs) t v ≡ v
unfolding inside
inside_over [] t v h = refl
inside_over (p ∷ []) t v h = refl
inside_over (p ∷ q ∷ xs) t v h = absurd (omega arith)
