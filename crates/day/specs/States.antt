-- A day as plain values.
use Rattle.std.specs.Prelude.{ℕ, Bool, true, false, List, [], replicate}
use Rattle.book.specs.Bids.{Place}
use Rattle.clearing.specs.declared.marks.Mark.{Mark}
use Rattle.clearing.specs.declared.marks.Mark.TheVariants.{Kept}
use Rattle.clearing.specs.declared.results.HourResult.{HourResult}
use Rattle.clearing.specs.Results.{no_result}
use Rattle.posting.specs.declared.fills.Fill.{Fill}
use Rattle.day.specs.declared.phases.Phase.{Phase}
use Rattle.day.specs.declared.phases.Phase.TheVariants.{Open, Fixed, Post, Final}

-- reference values, hour sets of the blocks, the order table with the number of stamps given, results and marks, and the post list
pub record State : Type 0 where
  pub phase : Phase
  pub references : List ℕ
  pub sets : List ℕ
  pub places : List Place
  pub given : ℕ
  pub results : List HourResult
  pub marks : List Mark
  pub posts : List Fill

-- results and marks that are zero
unfoldable pub no_results : List HourResult
no_results = replicate 24 no_result

unfoldable pub no_marks : List Mark
no_marks = replicate 256 Kept

-- a day as a load opens it
abbrev pub opened_with : List ℕ → List ℕ → List Place → ℕ → State
opened_with refs sets ps n = record { phase = Open; references = refs; sets = sets; places = ps; given = n; results = no_results; marks = no_marks; posts = [] }

abbrev pub is_open : Phase → Bool
is_open Open = true
is_open Fixed = false
is_open Post = false
is_open Final = false

abbrev pub is_fixed : Phase → Bool
is_fixed Open = false
is_fixed Fixed = true
is_fixed Post = false
is_fixed Final = false

abbrev pub is_post : Phase → Bool
is_post Open = false
is_post Fixed = false
is_post Post = true
is_post Final = false
