-- Wherever prices stand: best price, blocks, priority and balance of a day with the rows that it holds.
use Rattle.std.proofs.Common.{◌≡◌, ℕ, ◌+◌, ◌-◌, ◌<◌, ◌≤◌, Bool, true, false, cond, List, length, sum, sym, refl, ap, ◌∙◌, subst, arith, Option}
use Rattle.std.specs.List.{AllByRecursion}
use Rattle.std.proofs.lemmas.List.Elements.{All-from_recursion}
use Rattle.book.specs.Bids.{Place}
use Rattle.book.specs.Places.{blocks_held}
use Rattle.book.specs.Shown.{same_side}
use Rattle.book.specs.Views.{places, sets_of}
use Rattle.dayfile.specs.Views.{tick_values}
use Rattle.book.specs.declared.entries.Entry.{Entry}
use Rattle.clearing.specs.declared.marks.Mark.{Mark}
use Rattle.clearing.specs.declared.results.HourResult.{HourResult}
use Rattle.clearing.specs.Hours.{day_hours}
use Rattle.clearing.specs.Results.{result_at}
use Rattle.clearing.specs.Blocks.{blocks_of}
use Rattle.clearing.specs.Rounds.{Outcome, rounds_of}
use Rattle.clearing.specs.Clearing.{ticks, results_of, clearing_of}
use Rattle.clearing.specs.Fixing.{Stamped, BlocksCleared}
use Rattle.clearing.specs.Sharing.{shares_on, HourShared, FromClearing}
use Rattle.clearing.proofs.Settling.{running_settled}
use Rattle.clearing.proofs.Cleared.{blocks_length, blocks_cleared, hours_priced}
use Rattle.clearing.proofs.Balanced.{hour_shared}
use Rattle.dayfile.specs.declared.opening.Opening.{Opening}
use Rattle.posting.specs.declared.fills.Fill.{Fill}
use Rattle.posting.specs.Posts.{filled_in, filled_on}
use Rattle.day.specs.declared.phases.Phase.{Phase}
use Rattle.day.specs.States.{State}
use Rattle.day.specs.Answers.{clearing_in}
use Rattle.day.specs.Views.{state_of}
use Rattle.history.specs.Law.{Standing}
use Rattle.history.proofs.Fills.{Facing, filled_on_side, filled_off}

-- the blocks of a clearing
clearing_blocks : (ps : List Place) (sets refs : List ℕ) → BlocksCleared ps sets refs (clearing_of ps sets refs).rounds (clearing_of ps sets refs).results (clearing_of ps sets refs).marks
unfolding clearing_of
clearing_blocks ps sets refs =
    let bs = blocks_of sets ps in
    let o : Outcome = rounds_of bs (results_of ps bs refs) in
    let long : length o.marks ≡ length ps = (running_settled bs (results_of ps bs refs) o.rounds o.standing o.marks refl).long ∙ blocks_length sets ps in
    blocks_cleared ps sets refs o.rounds (results_of ps bs refs o.standing) o.standing o.marks long refl refl

-- shares and post fills of a side
on_both_sides : (t : Bool) (shares executed filled on : ℕ) → shares ≡ cond t (executed + filled) executed → (t ≡ true → on ≡ 0) → (t ≡ false → on ≡ filled) → shares + on ≡ executed + filled
on_both_sides true shares executed filled on e f g = omega (arith, f refl)
on_both_sides false shares executed filled on e f g = omega (arith, g refl)

module _ (p : Phase) (o : Opening) (rows : List (Option Entry)) (rs : List HourResult) (ms : List Mark) (fs : List Fill) where
  abbrev day : State
  day = state_of p o (places rows) rs ms fs

  pub standing : length rows ≡ 256 → length o.references ≡ 24 → rs ≡ (clearing_in day).results → ms ≡ (clearing_in day).marks
      → Stamped (places rows) → blocks_held (places rows) ≤ 32
      → ((hour : ℕ) → filled_in hour fs ≤ (result_at rs (hour - 1)).surplus) → AllByRecursion (Facing rs) fs → Standing day
  unfolding ticks tick_values
  standing long refs is marks apart few within opposite =
      let ps = places rows in
      let sets = sets_of o.blocks in
      let ts = tick_values o.references in
      let rounds = (clearing_in day).rounds in
      let blocks : BlocksCleared ps sets ts rounds rs ms = subst (λ (x : List Mark). BlocksCleared ps sets ts rounds rs x) (sym marks) (subst (λ (x : List HourResult). BlocksCleared ps sets ts rounds x (clearing_in day).marks) (sym is) (clearing_blocks ps sets ts)) in
      let short : length rows ≤ 256 = omega arith in
      let shared : (h : ℕ) → h < day_hours → HourShared ps sets ms h (result_at rs h) (filled_in (h + 1) fs) = λ h l. hour_shared rows sets ms h (result_at rs h) (filled_in (h + 1) fs) short l in
      let left : (h : ℕ) → filled_in (h + 1) fs ≤ (result_at rs h).surplus = λ h. let back : h + 1 - 1 ≡ h = omega arith in omega (arith, within (h + 1), ap (λ k. (result_at rs k).surplus) back) in
      record {
        results = is;
        marks = marks;
        priced = hours_priced rows sets o.references short refs rounds rs ms blocks.published;
        blocks = blocks;
        rounds = blocks.few few;
        shared = shared;
        balance = λ h l side.
            let r = result_at rs h in
            let from : FromClearing ps sets ms h r (filled_in (h + 1) fs) = record { refs = ts; result_is = ap (λ (x : List HourResult). result_at x h) is; marks_are = marks } in
            on_both_sides (same_side side r.side) (sum (shares_on ps sets ms h r (filled_in (h + 1) fs) side)) r.executed (filled_in (h + 1) fs) (filled_on side (h + 1) fs)
            ((shared h l).balance apart from (left h) side) (filled_on_side rs h side fs opposite) (filled_off rs h side fs opposite);
        within = λ h l. left h;
        opposite = All-from_recursion (Facing rs) fs opposite;
      }
