-- The words for an order's side and for its form.
use Rattle.std.specs.Prelude.{ℕ, List, [], ◌∷◌, codes}
use Rattle.curves.specs.declared.sides.Side.{Side}
use Rattle.curves.specs.declared.sides.Side.TheVariants.{Buy, Sell}
use Rattle.text.specs.Format.{Format, Item, item, dressed}
use Rattle.text.specs.Items.{word}
use Rattle.dayfile.specs.declared.kinds.Kind.{Kind}
use Rattle.dayfile.specs.declared.kinds.Kind.TheVariants.{Market, Step, Linear}
use Rattle.dayfile.specs.declared.kinds.SideWord.{SideWord}

abbrev pub side_name : Side → List ℕ
side_name Buy = codes "buy"
side_name Sell = codes "sell"

abbrev pub word_of : Side → SideWord
word_of s = record { side = s }

abbrev pub side_word : Item SideWord
side_word = word (λ w. side_name w.side) (word_of Buy ∷ word_of Sell ∷ [])

-- a side, and the space after it
abbrev pub side_text : Format Side
side_text = dressed (λ w. w.side) word_of (item side_word 32)

abbrev pub kind_name : Kind → List ℕ
kind_name Market = codes "market"
kind_name Step = codes "step"
kind_name Linear = codes "linear"

abbrev pub kind_word : Item Kind
kind_word = word kind_name (Market ∷ Step ∷ Linear ∷ [])
