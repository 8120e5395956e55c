-- What each refusal is called: its layer, its number and its place.
use Rattle.std.specs.Prelude.{ℕ}
use Rattle.faults.specs.declared.fault.Fault.{Fault}
use Rattle.faults.specs.declared.fault.Layer.{Layer}
use Rattle.faults.specs.declared.fault.Layer.TheVariants.{Text, Order, Day}
use Rattle.faults.specs.declared.fault.Refusal.{Refusal}
use Rattle.faults.specs.declared.fault.Refusal.TheVariants.{Misfit, OutOfRange, TickNotAbove, VolumeTurned, NoSuchBlock, BlockForm, WrongLength, WrongPhase, RowTaken, RowEmpty, OtherMember, BlocksFull, StampsSpent, PostsFull, NothingLeft, WholeTooLarge}

-- 1, 2 and 7 are the text's, 3 to 6 the order's, the rest the day's
abbrev pub layer_of : Refusal → Layer
layer_of (Misfit p) = Text
layer_of (OutOfRange p) = Text
layer_of (TickNotAbove p) = Order
layer_of (VolumeTurned p) = Order
layer_of NoSuchBlock = Order
layer_of BlockForm = Order
layer_of WrongLength = Text
layer_of WrongPhase = Day
layer_of (RowTaken p) = Day
layer_of (RowEmpty p) = Day
layer_of (OtherMember p) = Day
layer_of (BlocksFull p) = Day
layer_of StampsSpent = Day
layer_of (PostsFull p) = Day
layer_of (NothingLeft p) = Day
layer_of (WholeTooLarge p) = Day

abbrev pub number_of : Refusal → ℕ
number_of (Misfit p) = 1
number_of (OutOfRange p) = 2
number_of (TickNotAbove p) = 3
number_of (VolumeTurned p) = 4
number_of NoSuchBlock = 5
number_of BlockForm = 6
number_of WrongLength = 7
number_of WrongPhase = 11
number_of (RowTaken p) = 12
number_of (RowEmpty p) = 13
number_of (OtherMember p) = 14
number_of (BlocksFull p) = 15
number_of StampsSpent = 16
number_of (PostsFull p) = 17
number_of (NothingLeft p) = 18
number_of (WholeTooLarge p) = 19

-- the item's byte offset for 1 and 2, the pair for 3 and 4, the row for 12 to 15, the hour for 17 to 19, else 0
abbrev pub place_of : Refusal → ℕ
place_of (Misfit p) = p
place_of (OutOfRange p) = p
place_of (TickNotAbove p) = p
place_of (VolumeTurned p) = p
place_of NoSuchBlock = 0
place_of BlockForm = 0
place_of WrongLength = 0
place_of WrongPhase = 0
place_of (RowTaken p) = p
place_of (RowEmpty p) = p
place_of (OtherMember p) = p
place_of (BlocksFull p) = p
place_of StampsSpent = 0
place_of (PostsFull p) = p
place_of (NothingLeft p) = p
place_of (WholeTooLarge p) = p

-- a refusal in the line that begins at l
abbrev pub fault : Refusal → ℕ → Fault
fault r l = record { refusal = r; line = l }
