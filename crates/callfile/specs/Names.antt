-- The words for a call and for how much of a volume a post order takes.
use Rattle.std.specs.Prelude.{ℕ, List, [], ◌∷◌, ◌++◌, codes}
use Rattle.text.specs.Format.{Format, Item, item, dressed}
use Rattle.text.specs.Items.{word}
use Rattle.calls.specs.declared.posts.Portion.{Portion}
use Rattle.calls.specs.declared.posts.Portion.TheVariants.{Part, Whole}
use Rattle.callfile.specs.declared.names.CallName.{CallName}
use Rattle.callfile.specs.declared.names.CallName.TheVariants.{Enter, Change, Withdraw, Fix, Recall, Confirm, Post, Finish}
use Rattle.callfile.specs.declared.names.PortionWord.{PortionWord}

abbrev pub call_name : CallName → List ℕ
call_name Enter = codes "enter"
call_name Change = codes "change"
call_name Withdraw = codes "withdraw"
call_name Fix = codes "fix"
call_name Recall = codes "recall"
call_name Confirm = codes "confirm"
call_name Post = codes "post"
call_name Finish = codes "finish"

-- the calls that take items, and those that take none
abbrev pub full_calls : List CallName
full_calls = Enter ∷ Change ∷ Withdraw ∷ Post ∷ []

abbrev pub bare_calls : List CallName
bare_calls = Fix ∷ Recall ∷ Confirm ∷ Finish ∷ []

abbrev pub all_calls : List CallName
all_calls = full_calls ++ bare_calls

abbrev pub call_word : Item CallName
call_word = word call_name all_calls

abbrev pub portion_name : Portion → List ℕ
portion_name Part = codes "part"
portion_name Whole = codes "whole"

abbrev pub word_of : Portion → PortionWord
word_of p = record { portion = p }

abbrev pub portion_word : Item PortionWord
portion_word = word (λ w. portion_name w.portion) (word_of Part ∷ word_of Whole ∷ [])

-- a portion, and the line end after it
abbrev pub portion_text : Format Portion
portion_text = dressed (λ w. w.portion) word_of (item portion_word 10)
