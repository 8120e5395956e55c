-- No load is refused or cut off: an hour has the price of the rules over its orders and the standing blocks.
use Rattle.std.proofs.Common.{◌≡◌, ℕ, zero, suc, ◌+◌, ◌*◌, ◌<◌, ◌≤◌, min, Bool, true, false, cond, ◌&&◌, ltb, List, length, get_or, Some, None, Ok, Err, Option, Result, sym, refl, ap, ◌∙◌, inl, inr, arith}
use mathlib.Core.Path.{fun_ext}
use Rattle.std.proofs.lemmas.Bool.{le-ltb, lt-ltb, or_from, cases_lt}
use Rattle.faults.specs.declared.fault.Fault.{Fault}
use Rattle.faults.specs.Answers.{out_of_range, wrong_length}
use Rattle.curves.specs.declared.sides.Side.{Side}
use Rattle.curves.specs.declared.sides.Side.TheVariants.{Buy, Sell}
use Rattle.curves.specs.Tables.{Turned}
use Rattle.curves.specs.Ranges.{bad_tick}
use Rattle.curves.specs.Loads.{capped}
use Rattle.curves.specs.Price.{price_of, executed, surplus}
use Rattle.curves.proofs.Rules as rules
use Rattle.book.specs.declared.entries.Entry.{Entry}
use Rattle.book.specs.Shown.{same_side, book_shows, bad_hour, hour_answer}
use Rattle.book.specs.Views.{places}
use Rattle.book.specs.Booked.{book_few, book_turned}
use Rattle.allocation.specs.Places.{place_number}
use Rattle.clearing.specs.declared.blocks.Block.{Block}
use Rattle.clearing.specs.Upto.{upto}
use Rattle.clearing.specs.Hours.{in_hour}
use Rattle.clearing.specs.Verdicts.{adds_of, adds, load_of}
use Rattle.book.specs.Bids.{Place}
use Rattle.clearing.specs.declared.results.HourResult.{HourResult}
use Rattle.clearing.specs.Clearing.{surplus_side, published, published_at, result_of}
use Rattle.clearing.specs.Blocks.{small_blocks}
use Rattle.clearing.proofs.Collected.{small_at}

counted_le : (p : Bool) (n : ℕ) → cond p n 0 ≤ n
counted_le true n = omega arith
counted_le false n = omega arith

adds_few : (f : Bool) (s : Side) (h : ℕ) (o : Option Block) → place_number (λ (b : Block). b.volume) o ≤ 100000 → adds_of f s h o ≤ 100000
adds_few f s h None few = omega arith
adds_few f s h (Some b) few = omega (arith, counted_le (f && (same_side s b.side && in_hour b.hours h)) b.volume)

upto_few : (f : ℕ → ℕ) → ((k : ℕ) → f k ≤ 100000) → (n : ℕ) → upto f n ≤ n * 100000
unfolding upto
upto_few f few zero = omega arith
upto_few f few (suc n) = omega (arith, few n, upto_few f few n)

pub load_few : (bs : List (Option Block)) (fs : List Bool) (s : Side) (h : ℕ) → length bs ≤ 256 → small_blocks bs ≡ true → load_of bs fs s h ≤ 25600000
load_few bs fs s h short small = omega (arith, upto_few (adds bs fs s h) (λ k. adds_few (get_or fs k false) s h (get_or bs k None) (small_at bs k small)) (length bs))

abbrev pub triple : (ℕ → ℕ) → (ℕ → ℕ) → ℕ → ℕ × ℕ × ℕ
triple b s ref = (price_of b s ref, executed b s (price_of b s ref), surplus b s (price_of b s ref))

granted : (p q r s t : Bool) (e f : Fault) (x : ℕ × ℕ × ℕ) → p ≡ false → q ≡ false → r ≡ false → s ≡ false → t ≡ false → ◌≡◌ {A = Result (ℕ × ℕ × ℕ) Fault} (cond p (Err e) (cond q (Err f) (cond r (Err f) (cond s (Err f) (cond t (Err f) (Ok x)))))) (Ok x)
granted p q r s t e f x a b c d g = rw (a, b, c, d, g)

uncapped : (f : ℕ → ℕ) (v : ℕ) → ((t : ℕ) → f t ≤ 25600000) → v ≤ 25600000 → ◌≡◌ {A = ℕ → ℕ} (λ t. capped v (f t)) (λ t. f t + v)
uncapped f v few h = fun_ext (λ t. omega (arith, few t))

added_turned : (side : Side) (f : ℕ → ℕ) (v : ℕ) → Turned side f → Turned side (λ t. f t + v)
added_turned Buy f v h = λ t u a b c. omega (arith, h t u a b c)
added_turned Sell f v h = λ t u a b c. omega (arith, h t u a b c)

-- the two tables of an hour: its orders and a load
module _ (rows : List (Option Entry)) (hour bl sl ref : ℕ) where
  abbrev pub buying : ℕ → ℕ
  buying t = book_shows hour Buy (places rows) t + bl

  abbrev pub selling : ℕ → ℕ
  selling t = book_shows hour Sell (places rows) t + sl

  module _ (few : length rows ≤ 256) (fewb : bl ≤ 25600000) (fews : sl ≤ 25600000) (low : 1 ≤ ref) (high : ref ≤ 300000) where
    pub settled : rules.Settled buying selling (price_of buying selling ref)
    settled = rules.settled_price buying selling Buy Sell ref refl refl (added_turned Buy _ bl (book_turned hour Buy rows)) (added_turned Sell _ sl (book_turned hour Sell rows)) low high

    pub hour_plain : 1 ≤ hour → hour ≤ 24 → hour_answer (length rows) (places rows) hour bl sl ref ≡ Ok (triple buying selling ref)
    hour_plain first last =
        let b : ℕ → ℕ = book_shows hour Buy (places rows) in
        let s : ℕ → ℕ = book_shows hour Sell (places rows) in
        let bfew : (t : ℕ) → b t ≤ 25600000 = λ t. omega (arith, book_few hour Buy rows t) in
        let sfew : (t : ℕ) → s t ≤ 25600000 = λ t. omega (arith, book_few hour Sell rows t) in
        granted (ltb 256 (length rows)) (bad_hour hour) (ltb 100000000 (b 1 + bl)) (ltb 100000000 (s 300000 + sl)) (bad_tick ref) wrong_length out_of_range (triple (λ t. capped bl (b t)) (λ t. capped sl (s t)) ref)
        (le-ltb _ _ few) (or_from _ _ (le-ltb _ _ first) (le-ltb _ _ last)) (le-ltb _ _ (omega (arith, bfew 1))) (le-ltb _ _ (omega (arith, sfew 300000))) (or_from _ _ (le-ltb _ _ low) (le-ltb _ _ high))
        ∙ ap (λ (f : ℕ → ℕ). Ok (triple f (λ t. capped sl (s t)) ref)) (uncapped b bl bfew fewb) ∙ ap (λ (f : ℕ → ℕ). Ok (triple (λ t. b t + bl) f ref)) (uncapped s sl sfew fews)

-- an hour's result from the loads of its two sides and its reference value
abbrev pub with_loads : List Place → ℕ → ℕ → ℕ → ℕ → HourResult
with_loads ps number bl sl ref =
    let b : ℕ → ℕ = λ t. book_shows number Buy ps t + bl in
    let s : ℕ → ℕ = λ t. book_shows number Sell ps t + sl in
    published_at b s (price_of b s ref)

side_same : (b s : ℕ) → surplus_side b (min b s) ≡ surplus_side b s
side_same b s = elim (cases_lt s b) [
  | inl l ↦ ap (λ x. cond x Buy Sell) (lt-ltb (min b s) b (omega arith) ∙ sym (lt-ltb s b l))
  | inr g ↦ ap (λ x. cond x Buy Sell) (le-ltb (min b s) b (omega arith) ∙ sym (le-ltb s b g))
]

abbrev pub result : ℕ → ℕ → ℕ → Side → HourResult
result p e x side = record { price = p; executed = e; surplus = x; side = side }

pub hour_result : (ps : List Place) (number bl sl ref : ℕ) (x : ℕ × ℕ × ℕ) → ◌≡◌ {A = Result (ℕ × ℕ × ℕ) Fault} (Ok x) (Ok (triple (λ t. book_shows number Buy ps t + bl) (λ t. book_shows number Sell ps t + sl) ref)) → published x (book_shows number Buy ps x.0 + bl) ≡ with_loads ps number bl sl ref
hour_result ps number bl sl ref x e =
    let b : ℕ → ℕ = λ t. book_shows number Buy ps t + bl in
    let s : ℕ → ℕ = λ t. book_shows number Sell ps t + sl in
    let p : ℕ = price_of b s ref in
    let same : x ≡ triple b s ref = cc in
    ap (λ (y : ℕ × ℕ × ℕ). published y (b y.0)) same ∙ ap (result p (executed b s p) (surplus b s p)) (side_same (b p) (s p))

pub hour_of_day : (ps : List Place) (bs : List (Option Block)) (refs : List ℕ) (fs : List Bool) (h bl sl ref : ℕ) → bl ≡ load_of bs fs Buy h → sl ≡ load_of bs fs Sell h → ref ≡ get_or refs h 0 → with_loads ps (h + 1) bl sl ref ≡ result_of ps bs refs fs h
unfolding result_of
hour_of_day ps bs refs fs h bl sl ref p q r =
    ap (λ x. with_loads ps (h + 1) x sl ref) p ∙ ap (λ x. with_loads ps (h + 1) (load_of bs fs Buy h) x ref) q ∙ ap (λ x. with_loads ps (h + 1) (load_of bs fs Buy h) (load_of bs fs Sell h) x) r

-- the hour that a day's rounds ask for
module _ (rows : List (Option Entry)) (bs : List (Option Block)) (fs : List Bool) (h bl sl ref : ℕ) (few : length rows ≤ 256) (placed : length bs ≤ 256) (small : small_blocks bs ≡ true)
    (within : h < 24) (bl_is : bl ≡ load_of bs fs Buy h) (sl-is : sl ≡ load_of bs fs Sell h) (low : 1 ≤ ref) (high : ref ≤ 300000) where
  pub hour_granted : (number : ℕ) (r : Result (ℕ × ℕ × ℕ) Fault) → number ≡ h + 1 → r ≡ hour_answer (length rows) (places rows) number bl sl ref → r ≡ Ok (triple (buying rows (h + 1) bl sl ref) (selling rows (h + 1) bl sl ref) ref)
  hour_granted number r n e =
      e ∙ ap (λ k. hour_answer (length rows) (places rows) k bl sl ref) n ∙ hour_plain rows (h + 1) bl sl ref few (omega (arith, load_few bs fs Buy h placed small)) (omega (arith, load_few bs fs Sell h placed small)) low high (omega arith) (omega arith)

  -- the price that the call answers is a tick
  pub hour_tick : (x : ℕ × ℕ × ℕ) → ◌≡◌ {A = Result (ℕ × ℕ × ℕ) Fault} (Ok x) (Ok (triple (buying rows (h + 1) bl sl ref) (selling rows (h + 1) bl sl ref) ref)) → (1 ≤ x.0) × (x.0 ≤ 300000)
  hour_tick x e =
      let same : x ≡ triple (buying rows (h + 1) bl sl ref) (selling rows (h + 1) bl sl ref) ref = cc in
      let price = ap (λ (y : ℕ × ℕ × ℕ). y.0) same in
      let s = settled rows (h + 1) bl sl ref few (omega (arith, load_few bs fs Buy h placed small)) (omega (arith, load_few bs fs Sell h placed small)) low high in
      (omega (arith, price, s.low), omega (arith, price, s.high))
