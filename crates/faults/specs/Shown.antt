-- A fault in print: its layer, number, place and line, parted by spaces.
use Rattle.std.specs.Prelude.{ℕ, List, ◌++◌, codes, decimal}
use Rattle.faults.specs.declared.fault.Fault.{Fault}
use Rattle.faults.specs.declared.fault.Layer.{Layer}
use Rattle.faults.specs.declared.fault.Layer.TheVariants.{Text, Order, Day}
use Rattle.faults.specs.Refusals.{layer_of, number_of, place_of}

abbrev pub layer_name : Layer → List ℕ
layer_name Text = codes "text"
layer_name Order = codes "order"
layer_name Day = codes "day"

unfoldable pub parts_shown : Layer → ℕ → ℕ → ℕ → List ℕ
parts_shown layer number place line =
    layer_name layer ++ (codes " " ++ (decimal number ++ (codes " " ++ (decimal place ++ (codes " " ++ decimal line)))))

abbrev pub fault_shown : Fault → List ℕ
fault_shown f = parts_shown (layer_of f.refusal) (number_of f.refusal) (place_of f.refusal) f.line
