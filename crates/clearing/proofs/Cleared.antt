-- What clearing a day comes to: its blocks and its hours.
use Rattle.std.proofs.Common.{◌≡◌, ℕ, zero, suc, ◌+◌, ◌<◌, ◌≤◌, Bool, true, false, cond, not, ltb, List, [], ◌∷◌, map, length, get_or, is_some, Some, None, count_by, Option, sym, refl, ap, ◌∙◌, subst, arith}
use Rattle.std.proofs.lemmas.List.Sums.{sum_by-cons}
use Rattle.std.proofs.lemmas.List.{length-map, get_or-map}
use Rattle.curves.specs.declared.sides.Side.TheVariants.{Buy, Sell}
use Rattle.curves.specs.declared.ticks.Tick.{Tick}
use Rattle.curves.specs.Price.{price_of, executed, surplus, Best}
use Rattle.book.specs.declared.entries.Entry.{Entry}
use Rattle.book.specs.Bids.{Bid, Place, vacant, held}
use Rattle.book.specs.Places.{place_at, holds_block, blocks_held}
use Rattle.book.specs.Views.{place_of, places}
use Rattle.allocation.specs.Places.{place_number}
use Rattle.allocation.specs.declared.block.BlockClaim.{BlockClaim}
use Rattle.clearing.specs.declared.blocks.Block.{Block}
use Rattle.clearing.specs.declared.marks.Cause.{Cause}
use Rattle.clearing.specs.declared.marks.Mark.{Mark}
use Rattle.clearing.specs.declared.results.HourResult.{HourResult}
use Rattle.clearing.specs.Hours.{day_hours}
use Rattle.clearing.specs.Results.{no_result, result_at}
use Rattle.clearing.specs.Verdicts.{load_of}
use Rattle.clearing.specs.Rounds.{outcome, claimed, claim_at, blocks_before, round_verdict, rounds_of, stood, Settled}
use Rattle.clearing.specs.Blocks.{block_terms, block_with, block_in, block_of, blocks_of}
use Rattle.clearing.specs.Clearing.{ticks, surplus_side, bought, sold, result_of, results_of, clearing, settled_at, clearing_of}
use Rattle.clearing.specs.Fixing.{BlocksCleared, HoursPriced}
use Rattle.clearing.proofs.Settling.{ranking, row_fails, running_settled, few_rounds}
use Rattle.clearing.proofs.Tabled.{tabled_at}
use Rattle.clearing.proofs.Collected.{blocks_small}
use Rattle.clearing.proofs.Plain.{load_few, settled}

-- a place with a block order holds a bid, and the block has its stamp

with_stamp : (b : Bid) (hours : ℕ) (x : Option (ℕ × Option ℕ)) (k : Block) → block_with b hours x ≡ Some k → k.stamp ≡ b.stamp
with_stamp b hours None k e = absurd (cc)
with_stamp b hours (Some x) k e = let same : record { side = b.offer.side; hours = hours; volume = x.0; limit = x.1; stamp = b.stamp } ≡ k = cc in sym (ap (λ (y : Block). y.stamp) same)

in_stamp : (q : Bool) (b : Bid) (o : Option ℕ) (k : Block) → cond q (block_in b o) None ≡ Some k → k.stamp ≡ b.stamp
in_stamp false b o k e = absurd (cc)
in_stamp true b None k e = absurd (cc)
in_stamp true b (Some hours) k e = with_stamp b hours (block_terms b.offer.form) k e

pub block_stamp : (sets : List ℕ) (p : Place) (k : Block) → block_of sets p ≡ Some k → (b : Bid) × ((p ≡ held b) × (k.stamp ≡ b.stamp))
block_stamp sets vacant k e = absurd (cc)
block_stamp sets (held b) k e = (b, (refl, in_stamp (ltb 24 b.product) b _ k e))

some_of : {A : Type 0} (o : Option A) → is_some o ≡ true → (a : A) × (o ≡ Some a)
some_of None e = absurd (cc)
some_of (Some a) e = (a, refl)

pub blocks_length : (sets : List ℕ) (ps : List Place) → length (blocks_of sets ps) ≡ length ps
unfolding blocks_of
blocks_length sets ps = length-map ps (block_of sets)

pub blocks_at : (sets : List ℕ) (ps : List Place) (k : ℕ) → k < length ps → get_or (blocks_of sets ps) k None ≡ block_of sets (place_at ps k)
unfolding blocks_of
blocks_at sets ps k h = get_or-map (block_of sets) ps k vacant None h

-- each block order is held by a place that holds a block

abbrev one_if : Bool → ℕ
one_if f = cond f 1 0

held_one : (q : Bool) (o : Option Block) → one_if (is_some (cond q o None)) ≤ one_if q
held_one true None = omega arith
held_one true (Some b) = omega arith
held_one false o = omega arith

one_held : (sets : List ℕ) (p : Place) → one_if (is_some (block_of sets p)) ≤ one_if (holds_block p)
one_held sets vacant = omega arith
one_held sets (held b) = held_one (ltb 24 b.product) (block_in b _)

few_held : (sets : List ℕ) (ps : List Place) → count_by is_some (blocks_of sets ps) ≤ blocks_held ps
unfolding blocks_of blocks_held
few_held sets [] = omega arith
few_held sets (p ∷ ps) = omega (arith, sum_by-cons (λ o. one_if (is_some o)) (block_of sets p) (map (block_of sets) ps), one_held sets p, few_held sets ps)

-- of two blocks at places with different stamps one goes before the other
goes_other_way : (x y : Bool) → x ≡ not y → x ≡ false → y ≡ true
goes_other_way x true e f = refl
goes_other_way x false e f = absurd (cc (sym e ∙ f))

module _ (ps : List Place) (sets refs : List ℕ) where
  abbrev bs : List (Option Block)
  bs = blocks_of sets ps

  block_at : (fs : List Bool) (k : ℕ) (c : Cause) → k < length ps → round_verdict bs (results_of ps bs refs) fs k ≡ Some c → (b : Bid) × ((place_at ps k ≡ held b) × (place_number (λ (a : BlockClaim). a.stamp) (claim_at bs k) ≡ b.stamp))
  block_at fs k c h e =
      let some = some_of (get_or bs k None) (row_fails bs fs (results_of ps bs refs fs) k c e) in
      let found = block_stamp sets (place_at ps k) some.0 (sym (blocks_at sets ps k h) ∙ some.1) in
      (found.0, (found.1.0, ap (λ o. place_number (λ (a : BlockClaim). a.stamp) (claimed o)) some.1 ∙ found.1.1))

  pub blocks_cleared : (r : ℕ) (results : List HourResult) (fs : List Bool) (ms : List Mark) → length ms ≡ length ps → outcome fs ms r ≡ rounds_of bs (results_of ps bs refs) → results ≡ results_of ps bs refs fs → BlocksCleared ps sets refs r results ms
  blocks_cleared r results fs ms long is rs =
      let same = blocks_length sets ps in
      let s : Settled (length bs) (round_verdict bs (results_of ps bs refs)) (blocks_before bs) fs ms r = running_settled bs (results_of ps bs refs) r fs ms is in
      record {
        counted = s.counted;
        few = λ h. omega (arith, few_rounds bs (results_of ps bs refs) r fs ms (long ∙ sym same) s, few_held sets ps);
        published = rs ∙ ap (results_of ps bs refs) s.last;
        stands = λ k h. s.done k (omega (arith, same));
        failed = λ k q c h e. s.failed k q c (omega (arith, same)) e;
        lowest = λ k q c h e j other l f. s.lowest k q c (omega (arith, same)) e j other (omega (arith, same)) f;
        higher = λ apart k q c h e j other l ne f.
            let low = s.lowest k q c (omega (arith, same)) e j other (omega (arith, same)) f in
            let here = block_at (stood q ms) k c h (s.failed k q c (omega (arith, same)) e).2 in
            let there = block_at (stood q ms) j other l f in
            goes_other_way (blocks_before bs k j) (blocks_before bs j k)
            (ranking.decided (claim_at bs k) (claim_at bs j) (λ stamps. ne (sym (apart.apart k j here.0 there.0 here.1.0 there.1.0 (sym here.1.1 ∙ stamps ∙ there.1.1))))) low;
      }

  pub day_cleared : (r : ℕ) (results : List HourResult) (fs : List Bool) (ms : List Mark) → outcome fs ms r ≡ rounds_of bs (results_of ps bs refs) → results ≡ results_of ps bs refs fs → clearing r results ms ≡ clearing_of ps sets refs
  unfolding clearing_of
  day_cleared r results fs ms is rs = ap (λ l. clearing r l ms) rs ∙ ap (settled_at ps bs refs) is

  pub stood_last : (r : ℕ) (fs : List Bool) (ms : List Mark) → outcome fs ms r ≡ rounds_of bs (results_of ps bs refs) → fs ≡ stood r ms
  stood_last r fs ms is = (running_settled bs (results_of ps bs refs) r fs ms is).last

-- the hours

pub places_length : (rows : List (Option Entry)) → length (places rows) ≡ length rows
unfolding places
places_length rows = length-map rows place_of

tick_at : (ts : List Tick) (h : ℕ) → h < length ts → (1 ≤ get_or (ticks ts) h 0) × (get_or (ticks ts) h 0 ≤ 300000)
unfolding ticks
tick_at [] h l = absurd (omega arith)
tick_at (t ∷ ts) zero l = (t.low, t.high)
tick_at (t ∷ ts) (suc h) l = tick_at ts h (omega arith)

module _ (rows : List (Option Entry)) (sets : List ℕ) (ts : List Tick) (few : length rows ≤ 256) (long : length ts ≡ 24) where
  pub hours_priced : (r : ℕ) (results : List HourResult) (ms : List Mark) → results ≡ results_of (places rows) (blocks_of sets (places rows)) (ticks ts) (stood r ms) → HoursPriced (places rows) sets (ticks ts) r results ms
  unfolding result_of
  hours_priced r results ms is h l =
      let ps = places rows in
      let bs = blocks_of sets ps in
      let refs = ticks ts in
      let fs = stood r ms in
      let here : result_at results h ≡ result_of ps bs refs fs h = ap (λ x. result_at x h) is ∙ tabled_at (result_of ps bs refs fs) day_hours h no_result l in
      let b : ℕ → ℕ = bought ps bs refs fs h in
      let s : ℕ → ℕ = sold ps bs refs fs h in
      let p : (result_at results h).price ≡ price_of b s (get_or refs h 0) = ap (λ (x : HourResult). x.price) here in
      let ref = tick_at ts h (omega (arith, long)) in
      let short : length bs ≤ 256 = omega (arith, blocks_length sets ps, places_length rows) in
      let best = settled rows (h + 1) (load_of bs fs Buy h) (load_of bs fs Sell h) (get_or refs h 0) few (load_few bs fs Buy h short (blocks_small sets rows)) (load_few bs fs Sell h short (blocks_small sets rows)) ref.0 ref.1 in
      record {
        best = subst (Best b s) (sym p) best.best;
        price_is = p;
        executed_is = ap (λ (x : HourResult). x.executed) here ∙ ap (executed b s) (sym p);
        surplus_is = ap (λ (x : HourResult). x.surplus) here ∙ ap (surplus b s) (sym p);
        side_is = ap (λ (x : HourResult). x.side) here ∙ ap (λ t. surplus_side (b t) (s t)) (sym p);
      }
