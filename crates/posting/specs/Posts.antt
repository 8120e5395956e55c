-- Post-trading: what is left in an hour, what a post order is answered, and what it adds to the post list.
use Rattle.std.specs.Prelude.{ℕ, ◌+◌, ◌-◌, min, Bool, true, false, cond, ◌&&◌, ◌||◌, List, [], ◌∷◌, length, take, Ok, Err, Result, ◌==◌, nat_le, nat_lt, slice_set}
use Rattle.faults.specs.declared.fault.Fault.{Fault}
use Rattle.faults.specs.declared.fault.Refusal.TheVariants.{PostsFull, NothingLeft, WholeTooLarge}
use Rattle.faults.specs.Answers.{out_of_range, wrong_length}
use Rattle.curves.specs.declared.sides.Side.{Side}
use Rattle.curves.specs.declared.sides.Side.TheVariants.{Buy}
use Rattle.curves.specs.Ranges.{bad_volume}
use Rattle.book.specs.Verdicts.{bad_member}
use Rattle.book.specs.Shown.{same_side, bad_hour}
use Rattle.book.specs.Conditions.{Condition, when, decide}
use Rattle.clearing.specs.declared.results.HourResult.{HourResult}
use Rattle.clearing.specs.Results.{result_at}
use Rattle.posting.specs.declared.fills.Fill.{Fill}
use Rattle.calls.specs.declared.posts.PostOrder.{PostOrder}
use Rattle.calls.specs.declared.posts.Portion.{Portion}
use Rattle.calls.specs.declared.posts.Portion.TheVariants.{Part, Whole}

-- an empty place of the post list
abbrev pub no_fill : Fill
no_fill = record { member = 0; hour = 0; side = Buy; volume = 0 }

-- the fills of a post list of which some places are used
abbrev pub listed : ℕ → List Fill → List Fill
listed posted posts = take posted posts

-- the used places of a whole post list
abbrev pub posted_answer : List Fill → ℕ → Result (List Fill) Fault
posted_answer posts posted = cond (length posts == 128) (Ok (listed posted posts)) (Err wrong_length)

-- what a fill took from an hour, from 1
abbrev pub taken_by : ℕ → Fill → ℕ
taken_by hour f = cond (f.hour == hour) f.volume 0

-- the post fills of an hour
unfoldable pub filled_in : ℕ → List Fill → ℕ
filled_in hour [] = 0
filled_in hour (f ∷ fs) = taken_by hour f + filled_in hour fs

abbrev pub filled_answer : List Fill → ℕ → ℕ → Result ℕ Fault
filled_answer posts posted hour = cond (length posts == 128) (Ok (filled_in hour (listed posted posts))) (Err wrong_length)

-- the post fills of an hour on one side
abbrev pub taken_on : Side → ℕ → Fill → ℕ
taken_on side hour f = cond (f.hour == hour && same_side f.side side) f.volume 0

unfoldable pub filled_on : Side → ℕ → List Fill → ℕ
filled_on side hour [] = 0
filled_on side hour (f ∷ fs) = taken_on side hour f + filled_on side hour fs

-- members 1 to 999, hours 1 to 24, volumes 1 to 100,000
abbrev pub bad_post : PostOrder → Bool
bad_post o = bad_member o.member || bad_hour o.hour || bad_volume o.volume

abbrev pub post_verdict : PostOrder → Result (Unit {0}) Fault
post_verdict o = cond (bad_post o) (Err out_of_range) (Ok tt)

abbrev pub is_whole : Portion → Bool
is_whole Part = false
is_whole Whole = true

module _ (results : List HourResult) (posts : List Fill) where
  -- what is left in an hour is its surplus less its post fills
  abbrev pub left_in : ℕ → ℕ
  left_in hour = (result_at results (hour - 1)).surplus - filled_in hour posts

  -- nothing is left for the order's side: the surplus stands on that side, or is used up
  abbrev pub none_left : PostOrder → Bool
  none_left o = same_side o.side (result_at results (o.hour - 1)).side || left_in o.hour == 0

  -- a whole order exceeds what is left
  abbrev pub too_large : PostOrder → Bool
  too_large o = is_whole o.portion && nat_lt (left_in o.hour) o.volume

  abbrev pub post_refusals : PostOrder → List Condition
  post_refusals o =
      when (nat_le 128 (length posts)) (PostsFull o.hour)
      ∷ when (none_left o) (NothingLeft o.hour)
      ∷ when (too_large o) (WholeTooLarge o.hour)
      ∷ []

  -- what the order receives
  abbrev pub fill_of : PostOrder → ℕ
  fill_of o = min o.volume (left_in o.hour)

  -- what an order with proper numbers is answered. Shut, so that a caller need not look at the conditions.
  unfoldable pub post_decided : PostOrder → Result ℕ Fault
  post_decided o = decide (post_refusals o) (fill_of o)

-- the place that an order takes in the post list with what it received
abbrev pub fill_with : PostOrder → ℕ → Fill
fill_with o volume = record { member = o.member; hour = o.hour; side = o.side; volume = volume }

-- the lent tables have 24 results and 128 post places
abbrev pub right_posts : ℕ → ℕ → Bool
right_posts hours posts = hours == 24 && posts == 128

-- the order's own numbers, and then what it meets in the list
abbrev pub post_answer : List HourResult → List Fill → ℕ → PostOrder → Result ℕ Fault
post_answer hours posts posted o =
    cond (right_posts (length hours) (length posts))
    (cond (bad_post o) (Err out_of_range) (post_decided hours (listed posted posts) o))
    (Err wrong_length)

-- the post list after an answer: a granted order takes the next place, a refused one none
abbrev pub posts_after : Result ℕ Fault → PostOrder → ℕ → List Fill → List Fill
posts_after (Ok volume) o posted posts = slice_set posts posted (fill_with o volume)
posts_after (Err f) o posted posts = posts
