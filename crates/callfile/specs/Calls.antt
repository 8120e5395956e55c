-- The text of a call: its name, and then the items that it takes.
use Rattle.std.specs.Prelude.{ℕ}
use Rattle.curves.specs.declared.sides.Side.{Side}
use Rattle.curves.specs.declared.sides.Side.TheVariants.{Buy}
use Rattle.curves.specs.Offers.{flat, offer}
use Rattle.book.specs.Bids.{Asked}
use Rattle.text.specs.Format.{Format, item, then, line, dressed}
use Rattle.text.specs.Items.{number}
use Rattle.text.specs.Staged.{recast}
use Rattle.dayfile.specs.Kinds.{side_text}
use Rattle.dayfile.specs.Lines.{order_text}
use Rattle.calls.specs.declared.posts.Portion.{Portion}
use Rattle.calls.specs.declared.posts.Portion.TheVariants.{Part}
use Rattle.calls.specs.declared.posts.PostOrder.{PostOrder}
use Rattle.calls.specs.Moves.{Move, entering, changing, withdrawing, fixing, recalling, confirming, posting, finishing, overfull}
use Rattle.callfile.specs.declared.names.CallName.{CallName}
use Rattle.callfile.specs.declared.names.CallName.TheVariants.{Enter, Change, Withdraw, Fix, Recall, Confirm, Post, Finish}
use Rattle.callfile.specs.Ended.{ended, nothing}
use Rattle.callfile.specs.Names.{call_word, portion_text}

-- what ends a name: a space where items follow it, else the line end
abbrev pub end_of : CallName → ℕ
end_of Enter = 32
end_of Change = 32
end_of Withdraw = 32
end_of Fix = 10
end_of Recall = 10
end_of Confirm = 10
end_of Post = 32
end_of Finish = 10

abbrev pub name_text : Format CallName
name_text = ended end_of call_word

abbrev pub post_items : Format (ℕ × (ℕ × (Side × (ℕ × Portion))))
post_items =
    then (item (number 1 999) 32)
    (λ _. then (item (number 1 24) 32)
    (λ _. then side_text
    (λ _. then (item (number 1 100000) 32)
    (λ _. portion_text))))

abbrev pub as_post : ℕ × (ℕ × (Side × (ℕ × Portion))) → PostOrder
as_post p = record { member = p.0; hour = p.1.0; side = p.1.1.0; volume = p.1.1.1.0; portion = p.1.1.1.1 }

abbrev pub post_parts : PostOrder → ℕ × (ℕ × (Side × (ℕ × Portion)))
post_parts o = (o.member, (o.hour, (o.side, (o.volume, o.portion))))

-- the member, hour, side, volume and portion of an order of post-trading, with the line's end
abbrev pub post_text : Format PostOrder
post_text = dressed as_post post_parts post_items

-- a row and a member
abbrev pub withdraw_items : Format (ℕ × ℕ)
withdraw_items = then (item (number 0 255) 32) (λ _. item (number 1 999) 10)

-- what a move takes, or anything where it takes no such thing
abbrev pub row_and_member : Move → ℕ × ℕ
row_and_member (entering a) = (0, 0)
row_and_member (changing a) = (0, 0)
row_and_member (withdrawing r m) = (r, m)
row_and_member fixing = (0, 0)
row_and_member recalling = (0, 0)
row_and_member confirming = (0, 0)
row_and_member (posting o) = (0, 0)
row_and_member finishing = (0, 0)
row_and_member overfull = (0, 0)

abbrev pub any_asked : Asked
any_asked = record { row = 0; member = 0; product = 0; offer = offer Buy (flat 0) }

abbrev pub asked_in : Move → Asked
asked_in (entering a) = a
asked_in (changing a) = a
asked_in (withdrawing r m) = any_asked
asked_in fixing = any_asked
asked_in recalling = any_asked
asked_in confirming = any_asked
asked_in (posting o) = any_asked
asked_in finishing = any_asked
asked_in overfull = any_asked

abbrev pub any_post : PostOrder
any_post = record { member = 0; hour = 0; side = Buy; volume = 0; portion = Part }

abbrev pub post_in : Move → PostOrder
post_in (entering a) = any_post
post_in (changing a) = any_post
post_in (withdrawing r m) = any_post
post_in fixing = any_post
post_in recalling = any_post
post_in confirming = any_post
post_in (posting o) = o
post_in finishing = any_post
post_in overfull = any_post

abbrev pub withdraw_text : Format Move
withdraw_text = recast (λ p. withdrawing p.0 p.1) row_and_member withdraw_items

-- a call that takes nothing
abbrev pub bare : Move → Format Move
bare m = recast (λ _. m) (λ _. tt) nothing

-- what follows the name of a call
abbrev pub body : CallName → Format Move
body Enter = recast entering asked_in order_text
body Change = recast changing asked_in order_text
body Withdraw = withdraw_text
body Fix = bare fixing
body Recall = bare recalling
body Confirm = bare confirming
body Post = recast posting post_in post_text
body Finish = bare finishing

-- the name of a move; none is written `overfull`
abbrev pub name_of : Move → CallName
name_of (entering a) = Enter
name_of (changing a) = Change
name_of (withdrawing r m) = Withdraw
name_of fixing = Fix
name_of recalling = Recall
name_of confirming = Confirm
name_of (posting o) = Post
name_of finishing = Finish
name_of overfull = Finish

abbrev pub call_items : Format (CallName × Move)
call_items = then name_text body

-- a call, with the end of its line
unfoldable pub call_text : Format Move
call_text = recast (λ p. p.1) (λ m. (name_of m, m)) call_items

abbrev pub call_line : Format Move
call_line = line call_text
