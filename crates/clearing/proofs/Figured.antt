-- The worked figure of a block order: each price by the two ends of the range without excess.
use Rattle.std.proofs.Common.{◌≡◌, ℕ, ◌+◌, ◌*◌, ◌<◌, ◌≤◌, Bool, true, false, cond, List, [], ◌∷◌, replicate, Some, None, Option, sym, refl, ap, ◌∙◌, arith}
use Rattle.std.proofs.lemmas.Bool.{lt-ltb, le-ltb}
use Rattle.std.proofs.lemmas.Bool.Decides.{nat_tests}
use Rattle.curves.specs.declared.sides.Side.TheVariants.{Buy}
use Rattle.curves.specs.Steps.{last_below}
use Rattle.curves.specs.Price.{price_of}
use Rattle.curves.specs.Figures.{sells}
use Rattle.curves.proofs.Rules.{Parted, price_even}
use Rattle.book.specs.Shown.{book_shows}
use Rattle.clearing.specs.declared.blocks.Block.{Block}
use Rattle.clearing.specs.declared.marks.Cause.{Cause}
use Rattle.clearing.specs.declared.marks.Cause.TheVariants.{Loss}
use Rattle.clearing.specs.declared.marks.Mark.{Mark}
use Rattle.clearing.specs.declared.marks.Mark.TheVariants.{Kept, Dropped}
use Rattle.clearing.specs.declared.results.HourResult.{HourResult}
use Rattle.clearing.specs.Upto.{upto, any_upto}
use Rattle.clearing.specs.Results.{no_result, result_at}
use Rattle.clearing.specs.Hours.{price_sum}
use Rattle.clearing.specs.Verdicts.{cause_of, loss, short}
use Rattle.clearing.specs.Rounds.{Outcome, outcome, lower_of, lowest_upto, blocks_before, round_verdict, next_drop, rounds_of}
use Rattle.clearing.specs.Blocks.{blocks_of}
use Rattle.clearing.specs.Clearing.{published_at, bought, sold, result_of, results_of, clearing_of}
use Rattle.clearing.specs.Figures.{figure, BlockFigure}
use Rattle.clearing.proofs.Settling.{rounds_stop, rounds_step}
use Rattle.clearing.proofs.Tabled.{tabled_at}

abbrev refs : List ℕ
refs = replicate 24 5000

abbrev blocks : ℕ → List (Option Block)
blocks limit = blocks_of (3 ∷ []) (figure limit)

-- the block stands or not
abbrev flags : Bool → List Bool
flags f = true ∷ true ∷ f ∷ []

sells_below : (v t : ℕ) → t < v → sells v 10 t ≡ 0
unfolding last_below
sells_below v t h = grind (arith, nat_tests)

sells_from : (v t : ℕ) → v ≤ t → sells v 10 t ≡ 10
unfolding last_below
sells_from v t h = grind (arith, nat_tests)

-- a fixed volume bought, against a step sell of 10 at v
matched : (v : ℕ) (b s : ℕ → ℕ) → 1 ≤ v → v ≤ 300000 → ((t : ℕ) → b t ≡ 10) → ((t : ℕ) → s t ≡ sells v 10 t) → Parted b s v 300001
matched v b s low high bt st = record {
  low = low;
  mid = omega arith;
  high = omega arith;
  positive = λ t a h. omega (arith, bt t, st t, sells_below v t h);
  level = λ t a h. bt t ∙ sym (st t ∙ sells_from v t a);
  negative = λ t a h. absurd (omega arith);
}

unmatched : (v : ℕ) (b s : ℕ → ℕ) → 1 ≤ v → v ≤ 300000 → ((t : ℕ) → b t ≡ 0) → ((t : ℕ) → s t ≡ sells v 10 t) → Parted b s 1 v
unmatched v b s low high bt st = record {
  low = omega arith;
  mid = low;
  high = omega arith;
  positive = λ t a h. absurd (omega arith);
  level = λ t a h. bt t ∙ sym (st t ∙ sells_below v t h);
  negative = λ t a h. omega (arith, bt t, st t, sells_from v t a);
}

module _ (limit : ℕ) where
  bought_first : (f : Bool) (t : ℕ) → bought (figure limit) (blocks limit) refs (flags f) 0 t ≡ cond f 10 0
  unfolding book_shows upto blocks_of
  bought_first true t = refl
  bought_first false t = refl

  bought_second : (f : Bool) (t : ℕ) → bought (figure limit) (blocks limit) refs (flags f) 1 t ≡ cond f 10 0
  unfolding book_shows upto blocks_of
  bought_second true t = refl
  bought_second false t = refl

  sold_first : (f : Bool) (t : ℕ) → sold (figure limit) (blocks limit) refs (flags f) 0 t ≡ sells 4000 10 t
  unfolding book_shows upto blocks_of
  sold_first true t = omega arith
  sold_first false t = omega arith

  sold_second : (f : Bool) (t : ℕ) → sold (figure limit) (blocks limit) refs (flags f) 1 t ≡ sells 5200 10 t
  unfolding book_shows upto blocks_of
  sold_second true t = omega arith
  sold_second false t = omega arith

  module _ (f : Bool) where
    abbrev b0 : ℕ → ℕ
    b0 = bought (figure limit) (blocks limit) refs (flags f) 0

    abbrev s0 : ℕ → ℕ
    s0 = sold (figure limit) (blocks limit) refs (flags f) 0

    abbrev b1 : ℕ → ℕ
    b1 = bought (figure limit) (blocks limit) refs (flags f) 1

    abbrev s1 : ℕ → ℕ
    s1 = sold (figure limit) (blocks limit) refs (flags f) 1

    first_is : (p : ℕ) → price_of b0 s0 5000 ≡ p → result_at (results_of (figure limit) (blocks limit) refs (flags f)) 0 ≡ published_at b0 s0 p
    unfolding result_of
    first_is p e = tabled_at (result_of (figure limit) (blocks limit) refs (flags f)) 24 0 no_result (omega arith) ∙ ap (published_at b0 s0) e

    second_is : (p : ℕ) → price_of b1 s1 5000 ≡ p → result_at (results_of (figure limit) (blocks limit) refs (flags f)) 1 ≡ published_at b1 s1 p
    unfolding result_of
    second_is p e = tabled_at (result_of (figure limit) (blocks limit) refs (flags f)) 24 1 no_result (omega arith) ∙ ap (published_at b1 s1) e

  first_with : result_at (results_of (figure limit) (blocks limit) refs (flags true)) 0 ≡ published_at (b0 true) (s0 true) 5000
  first_with = first_is true 5000 (price_even (b0 true) (s0 true) 4000 300001 5000 (matched 4000 (b0 true) (s0 true) (omega arith) (omega arith) (bought_first true) (sold_first true)) (omega arith))

  second_with : result_at (results_of (figure limit) (blocks limit) refs (flags true)) 1 ≡ published_at (b1 true) (s1 true) 5200
  second_with = second_is true 5200 (price_even (b1 true) (s1 true) 5200 300001 5000 (matched 5200 (b1 true) (s1 true) (omega arith) (omega arith) (bought_second true) (sold_second true)) (omega arith))

  first_without : result_at (results_of (figure limit) (blocks limit) refs (flags false)) 0 ≡ published_at (b0 false) (s0 false) 3999
  first_without = first_is false 3999 (price_even (b0 false) (s0 false) 1 4000 5000 (unmatched 4000 (b0 false) (s0 false) (omega arith) (omega arith) (bought_first false) (sold_first false)) (omega arith))

  second_without : result_at (results_of (figure limit) (blocks limit) refs (flags false)) 1 ≡ published_at (b1 false) (s1 false) 5000
  second_without = second_is false 5000 (price_even (b1 false) (s1 false) 1 5200 5000 (unmatched 5200 (b1 false) (s1 false) (omega arith) (omega arith) (bought_second false) (sold_second false)) (omega arith))

sum_two : (rs : List HourResult) → price_sum 3 rs ≡ (result_at rs 0).price + (result_at rs 1).price
unfolding upto
sum_two rs = omega arith

abbrev priced : ℕ → List Bool → List HourResult
priced limit = results_of (figure limit) (blocks limit) refs

abbrev the_block : ℕ → Block
the_block limit = record { side = Buy; hours = 3; volume = 10; limit = Some limit; stamp = 3 }

-- the block makes a loss where twice its limit is below 10200
loses : (limit : ℕ) → limit < 5100 → loss (the_block limit) (priced limit (flags true)) ≡ true
unfolding upto
loses limit h =
    lt-ltb (limit * 2) (price_sum 3 (priced limit (flags true)))
    (omega (arith, sum_two (priced limit (flags true)), ap (λ (x : HourResult). x.price) (first_with limit), ap (λ (x : HourResult). x.price) (second_with limit)))

wins : (limit : ℕ) → 5100 ≤ limit → loss (the_block limit) (priced limit (flags true)) ≡ false
unfolding upto
wins limit h =
    le-ltb (limit * 2) (price_sum 3 (priced limit (flags true)))
    (omega (arith, sum_two (priced limit (flags true)), ap (λ (x : HourResult). x.price) (first_with limit), ap (λ (x : HourResult). x.price) (second_with limit)))

executed_first : (limit : ℕ) → (result_at (priced limit (flags true)) 0).executed ≡ 10
unfolding book_shows upto blocks_of last_below
executed_first limit = ap (λ (x : HourResult). x.executed) (first_with limit)

executed_second : (limit : ℕ) → (result_at (priced limit (flags true)) 1).executed ≡ 10
unfolding book_shows upto blocks_of last_below
executed_second limit = ap (λ (x : HourResult). x.executed) (second_with limit)

two_short : (rs : List HourResult) (limit : ℕ) → (result_at rs 0).executed ≡ 10 → (result_at rs 1).executed ≡ 10 → short (blocks limit) (flags true) rs (the_block limit) ≡ false
unfolding any_upto upto blocks_of
two_short rs limit e f = rw (e, f)

standing_verdict : (limit : ℕ) (q : Bool) → loss (the_block limit) (priced limit (flags true)) ≡ q → round_verdict (blocks limit) (priced limit) (flags true) 2 ≡ cond q (Some Loss) None
unfolding blocks_of
standing_verdict limit true e = ap (λ l. cause_of true l (short (blocks limit) (flags true) (priced limit (flags true)) (the_block limit))) e
standing_verdict limit false e =
    ap (λ l. cause_of true l (short (blocks limit) (flags true) (priced limit (flags true)) (the_block limit))) e
    ∙ ap (cause_of true false) (two_short (priced limit (flags true)) limit (executed_first limit) (executed_second limit))

next_of : (limit : ℕ) (f : Bool) (v : Option Cause) → round_verdict (blocks limit) (priced limit) (flags f) 2 ≡ v → next_drop (blocks limit) (priced limit) (flags f) ≡ lower_of (blocks_before (blocks limit)) None 2 v
unfolding lowest_upto blocks_of
next_of limit true v e = ap (lower_of (blocks_before (blocks limit)) None 2) e
next_of limit false v e = ap (lower_of (blocks_before (blocks limit)) None 2) e

out_verdict : (limit : ℕ) → round_verdict (blocks limit) (priced limit) (flags false) 2 ≡ None
unfolding blocks_of
out_verdict limit = refl

abbrev kept : List Mark
kept = Kept ∷ Kept ∷ Kept ∷ []

abbrev marked : List Mark
marked = Kept ∷ Kept ∷ Dropped 1 Loss ∷ []

stands : rounds_of (blocks 5100) (priced 5100) ≡ outcome (flags true) kept 1
unfolding blocks_of
stands = rounds_stop (next_drop (blocks 5100) (priced 5100)) 3 1 (flags true) kept (next_of 5100 true None (standing_verdict 5100 false (wins 5100 (omega arith))))

drops : rounds_of (blocks 5099) (priced 5099) ≡ outcome (flags false) marked 2
unfolding blocks_of
drops =
    rounds_step (next_drop (blocks 5099) (priced 5099)) 2 1 (flags true) kept (2, Loss) (next_of 5099 true (Some Loss) (standing_verdict 5099 true (loses 5099 (omega arith))))
    ∙ rounds_stop (next_drop (blocks 5099) (priced 5099)) 2 2 (flags false) marked (next_of 5099 false None (out_verdict 5099))

pub figure_stands : BlockFigure
unfolding clearing_of
figure_stands = record {
  stands_rounds = ap (λ (o : Outcome). o.rounds) stands;
  stands_marks = ap (λ (o : Outcome). o.marks) stands;
  stands_first = ap (λ (o : Outcome). (result_at (priced 5100 o.standing) 0).price) stands ∙ ap (λ (x : HourResult). x.price) (first_with 5100);
  stands_second = ap (λ (o : Outcome). (result_at (priced 5100 o.standing) 1).price) stands ∙ ap (λ (x : HourResult). x.price) (second_with 5100);
  drops_rounds = ap (λ (o : Outcome). o.rounds) drops;
  drops_marks = ap (λ (o : Outcome). o.marks) drops;
  drops_first = ap (λ (o : Outcome). (result_at (priced 5099 o.standing) 0).price) drops ∙ ap (λ (x : HourResult). x.price) (first_without 5099);
  drops_second = ap (λ (o : Outcome). (result_at (priced 5099 o.standing) 1).price) drops ∙ ap (λ (x : HourResult). x.price) (second_without 5099);
}
