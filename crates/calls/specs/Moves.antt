-- The calls of a day as plain values.
use Rattle.std.specs.Prelude.{cond, List, map, ℕ}
use Rattle.book.specs.Bids.{Asked}
use Rattle.book.specs.Drafted.{too_many, asked_of}
use Rattle.calls.specs.declared.posts.PostOrder.{PostOrder}
use Rattle.calls.specs.declared.calls.Call.{Call}
use Rattle.calls.specs.declared.calls.Call.TheVariants.{Enter, Change, Withdraw, Fix, Recall, Confirm, Post, Finish}

pub data Move : Type 0 where
  entering : Asked → Move
  changing : Asked → Move
  -- a row and a member
  withdrawing : ℕ → ℕ → Move
  fixing : Move
  recalling : Move
  confirming : Move
  posting : PostOrder → Move
  finishing : Move
  -- an enter or a change whose draft counts more pairs than it has room for
  overfull : Move

abbrev pub move_of : Call → Move
move_of (Enter d) = cond (too_many d.terms) overfull (entering (asked_of d))
move_of (Change d) = cond (too_many d.terms) overfull (changing (asked_of d))
move_of (Withdraw r m) = withdrawing r m
move_of Fix = fixing
move_of Recall = recalling
move_of Confirm = confirming
move_of (Post o) = posting o
move_of Finish = finishing

abbrev pub moves : List Call → List Move
moves cs = map move_of cs
