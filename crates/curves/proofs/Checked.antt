-- The worked figures: each price by the two ends of the range without excess.
use Rattle.std.proofs.Common.{◌≡◌, ℕ, ◌≤◌, refl, ◌∙◌, arith}
use Rattle.std.proofs.lemmas.Bool.Decides.{nat_tests}
use Rattle.curves.specs.Lines.{nudge, rounded, inside}
use Rattle.curves.specs.Steps.{last_below, first_above}
use Rattle.curves.specs.Price.{nearest, better}
use Rattle.curves.specs.Figures.{Figures, buys, sells}
use Rattle.curves.proofs.Rules.{Parted, price_even, price_over_ladder, price_turn}

level : Parted (buys 6000 100) (sells 4000 100) 4000 6001
unfolding last_below first_above
level = record {
  low = omega arith;
  mid = omega arith;
  high = omega arith;
  positive = λ t a h. grind (arith, nat_tests);
  level = λ t a h. grind (arith, nat_tests);
  negative = λ t a h. grind (arith, nat_tests);
}

bought : Parted (buys 6000 100) (sells 4000 60) 6001 6001
unfolding last_below first_above
bought = record {
  low = omega arith;
  mid = omega arith;
  high = omega arith;
  positive = λ t a h. grind (arith, nat_tests);
  level = λ t a h. absurd (omega arith);
  negative = λ t a h. grind (arith, nat_tests);
}

sold : Parted (buys 6000 60) (sells 4000 100) 4000 4000
unfolding last_below first_above
sold = record {
  low = omega arith;
  mid = omega arith;
  high = omega arith;
  positive = λ t a h. grind (arith, nat_tests);
  level = λ t a h. absurd (omega arith);
  negative = λ t a h. grind (arith, nat_tests);
}

gap : Parted (buys 4000 100) (sells 4001 100) 4001 4001
unfolding last_below first_above
gap = record {
  low = omega arith;
  mid = omega arith;
  high = omega arith;
  positive = λ t a h. grind (arith, nat_tests);
  level = λ t a h. absurd (omega arith);
  negative = λ t a h. grind (arith, nat_tests);
}

flat : Parted (λ _. 0) (λ _. 0) 1 300001
flat = record {
  low = omega arith;
  mid = omega arith;
  high = omega arith;
  positive = λ t a h. absurd (omega arith);
  level = λ t a h. refl;
  negative = λ t a h. absurd (omega arith);
}

alone : (v : ℕ) → 1 ≤ v → Parted (λ _. v) (λ _. 0) 300001 300001
alone v some = record {
  low = omega arith;
  mid = omega arith;
  high = omega arith;
  positive = λ t a h. some;
  level = λ t a h. absurd (omega arith);
  negative = λ t a h. absurd (omega arith);
}

stays : (ref : ℕ) → 1 ≤ ref → ref ≤ 300000 → nearest 1 300000 ref ≡ ref
stays ref low high = grind (arith, nat_tests)

pub figures : Figures
unfolding last_below first_above nudge rounded inside better
figures = record {
  step_sell_before = refl;
  step_sell_between = refl;
  step_sell_last = refl;
  linear_sell_middle = refl;
  linear_sell_end = refl;
  step_buy_first = refl;
  step_buy_between = refl;
  step_buy_after = refl;
  linear_buy_start = refl;
  range_below = price_even (buys 6000 100) (sells 4000 100) 4000 6001 3000 level (omega arith);
  range_inside = price_even (buys 6000 100) (sells 4000 100) 4000 6001 5000 level (omega arith);
  range_above = price_even (buys 6000 100) (sells 4000 100) 4000 6001 7000 level (omega arith);
  more_bought = λ ref. price_turn (buys 6000 100) (sells 4000 60) 6001 6001 ref bought (omega arith) (omega arith) (omega arith);
  more_sold = λ ref. price_turn (buys 6000 60) (sells 4000 100) 4000 4000 ref sold (omega arith) (omega arith) (omega arith);
  apart = price_turn (buys 4000 100) (sells 4001 100) 4001 4001 5000 gap (omega arith) (omega arith) (omega arith);
  no_orders = λ ref low high. price_even (λ _. 0) (λ _. 0) 1 300001 ref flat (omega arith) ∙ stays ref low high;
  market_buy_alone = λ v ref some. price_over_ladder (λ _. v) (λ _. 0) 300001 300001 ref (alone v some) (omega arith) (omega arith);
}
