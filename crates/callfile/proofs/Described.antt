-- The description of a call line is faithful.
use Rattle.std.proofs.Common.{◌≡◌, true, [], ◌∷◌, sym, refl, ap, arith}
use Rattle.curves.specs.declared.sides.Side.TheVariants.{Buy, Sell}
use Rattle.text.specs.declared.reader.Reader.{Reader}
use Rattle.text.specs.Format.{Outcome, got, onward, item, parting, Faithful}
use Rattle.text.specs.Tokens.{ahead}
use Rattle.text.proofs.Laws.{faithful_item, faithful_then, faithful_dressed}
use Rattle.text.proofs.Numbers.{lawful_word}
use Rattle.text.proofs.Stages.{faithful_recast}
use Rattle.text.proofs.Turns.{recast_told}
use Rattle.dayfile.specs.Kinds.{side_name, side_word, side_text}
use Rattle.dayfile.specs.Kinds as kinds
use Rattle.dayfile.specs.Lines.{order_text}
use Rattle.dayfile.proofs.Described.{faithful_number, faithful_order}
use Rattle.calls.specs.declared.posts.Portion.TheVariants.{Part, Whole}
use Rattle.calls.specs.Moves.{Move, entering, changing, withdrawing, fixing, recalling, confirming, posting, finishing}
use Rattle.callfile.specs.declared.names.CallName.{CallName}
use Rattle.callfile.specs.declared.names.CallName.TheVariants.{Enter, Change, Withdraw, Fix, Recall, Confirm, Post, Finish}
use Rattle.callfile.specs.Ended.{nothing}
use Rattle.callfile.specs.Names.{call_name, all_calls, call_word, portion_name, word_of, portion_word, portion_text}
use Rattle.callfile.specs.Calls.{end_of, name_text, post_items, as_post, post_parts, post_text, withdraw_items, row_and_member, asked_in, post_in, bare, body, name_of, call_items, call_text, call_line}
use Rattle.callfile.proofs.Endings.{faithful_ended, faithful_nothing}

ends_part : (k : CallName) → parting (end_of k) ≡ true
ends_part Enter = refl
ends_part Change = refl
ends_part Withdraw = refl
ends_part Fix = refl
ends_part Recall = refl
ends_part Confirm = refl
ends_part Post = refl
ends_part Finish = refl

faithful_name : Faithful name_text
faithful_name = faithful_ended end_of call_word (lawful_word call_name all_calls) ends_part

faithful_side : Faithful side_text
faithful_side = faithful_dressed (λ w. w.side) kinds.word_of (item side_word 32) (λ w h. refl) (λ s. refl) (faithful_item side_word 32 (lawful_word (λ w. side_name w.side) (kinds.word_of Buy ∷ kinds.word_of Sell ∷ [])) refl)

faithful_portion : Faithful portion_text
faithful_portion = faithful_dressed (λ w. w.portion) word_of (item portion_word 10) (λ w h. refl) (λ p. refl) (faithful_item portion_word 10 (lawful_word (λ w. portion_name w.portion) (word_of Part ∷ word_of Whole ∷ [])) refl)

faithful_post : Faithful post_text
faithful_post =
    faithful_dressed as_post post_parts post_items (λ a h. refl) (λ o. refl)
    (faithful_then _ _ (faithful_number 1 999 32 (omega arith) refl)
    (λ _ _. faithful_then _ _ (faithful_number 1 24 32 (omega arith) refl)
    (λ _ _. faithful_then _ _ faithful_side
    (λ _ _. faithful_then _ _ (faithful_number 1 100000 32 (omega arith) refl)
    (λ _ _. faithful_portion)))))

faithful_bare : (m : Move) → Faithful (bare m)
faithful_bare m = faithful_recast (λ _. m) (λ _. tt) nothing (λ a h. refl) faithful_nothing

faithful_body : (k : CallName) → Faithful (body k)
faithful_body Enter = faithful_recast entering asked_in order_text (λ a h. refl) faithful_order
faithful_body Change = faithful_recast changing asked_in order_text (λ a h. refl) faithful_order
faithful_body Withdraw =
    faithful_recast (λ p. withdrawing p.0 p.1) row_and_member withdraw_items (λ a h. refl)
    (faithful_then _ _ (faithful_number 0 255 32 (omega arith) refl) (λ _ _. faithful_number 1 999 10 (omega arith) refl))
faithful_body Fix = faithful_bare fixing
faithful_body Recall = faithful_bare recalling
faithful_body Confirm = faithful_bare confirming
faithful_body Post = faithful_recast posting post_in post_text (λ a h. refl) faithful_post
faithful_body Finish = faithful_bare finishing

-- a move after its name is of that name
name_said : (k : CallName) (m : Move) → (body k).Fits m → name_of m ≡ k
name_said Enter m h = ap name_of (sym h.1)
name_said Change m h = ap name_of (sym h.1)
name_said Withdraw m h = ap name_of (sym h.1)
name_said Fix m h = ap name_of (sym h.1)
name_said Recall m h = ap name_of (sym h.1)
name_said Confirm m h = ap name_of (sym h.1)
name_said Post m h = ap name_of (sym h.1)
name_said Finish m h = ap name_of (sym h.1)

-- what is read is what would be written, and what is written is read back, whatever follows it
pub faithful_call : Faithful call_text
unfolding call_text
faithful_call =
    faithful_recast (λ p. p.1) (λ m. (name_of m, m)) call_items (λ a h. ap (λ k. (k, a.1)) (name_said a.0 a.1 h.1))
    (faithful_then _ _ faithful_name (λ k _. faithful_body k))

-- a call line from its items
pub call_told : (s : Reader) (o : Outcome (CallName × Move)) → o ≡ call_items.read s.at s.at (ahead s) → onward o (λ a q cs. got a.1 q cs) ≡ call_line.read 0 s.at (ahead s)
unfolding call_text
call_told s o e = recast_told (λ p. p.1) (λ m. (name_of m, m)) call_items s.at s o e
