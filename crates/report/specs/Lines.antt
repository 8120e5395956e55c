-- The lines that are printed: one for each call, hour, block, share and post fill.
use Rattle.std.specs.Prelude.{ℕ, ◌+◌, cond, List, [], ◌∷◌, ◌++◌, Ok, Err, codes, decimal, Result, ◌==◌}
use Rattle.faults.specs.declared.fault.Fault.{Fault}
use Rattle.faults.specs.Refusals.{fault}
use Rattle.faults.specs.Shown.{fault_shown}
use Rattle.posting.specs.declared.fills.Fill.{Fill}

-- the text of each item of a list, whose items are numbered from k
abbrev pub each : {A : Type 0} → (ℕ → A → List ℕ) → ℕ → List A → List ℕ
each f k [] = []
each f k (x ∷ xs) = f k x ++ each f (k + 1) xs

abbrev pub refused_line : Fault → List ℕ
refused_line f = codes "no " ++ (fault_shown f ++ codes "\n")

-- the answer of the call in the line that begins at byte l: a refusal is printed with that line
abbrev pub answer_line : ℕ → Result ℕ Fault → List ℕ
answer_line l (Ok n) = codes "ok " ++ (decimal n ++ codes "\n")
answer_line l (Err f) = refused_line (fault f.refusal l)

-- each line with its answer, up to the end of the shorter list
unfoldable pub answer_lines : List ℕ → List (Result ℕ Fault) → List ℕ
answer_lines [] answers = []
answer_lines (l ∷ ls) [] = []
answer_lines (l ∷ ls) (a ∷ answers) = answer_line l a ++ answer_lines ls answers

-- an hour, from 0, in which something was traded
abbrev pub hour_line : ℕ → ℕ → ℕ → List ℕ
hour_line h price volume =
    cond (volume == 0) []
    (codes "hour " ++ (decimal (h + 1) ++ (codes " price " ++ (decimal price ++ (codes " volume " ++ (decimal volume ++ codes "\n"))))))

-- a block, from 0
abbrev pub block_line : ℕ → ℕ → List ℕ
block_line k price = codes "block " ++ (decimal (k + 1) ++ (codes " price " ++ (decimal price ++ codes "\n")))

-- a row's share of an hour, from 0, where it has one
abbrev pub share_line : ℕ → ℕ → ℕ → List ℕ
share_line row h share =
    cond (share == 0) []
    (codes "row " ++ (decimal row ++ (codes " hour " ++ (decimal (h + 1) ++ (codes " share " ++ (decimal share ++ codes "\n"))))))

abbrev pub post_line : Fill → List ℕ
post_line f =
    codes "post " ++ (decimal f.member ++ (codes " hour " ++ (decimal f.hour ++ (codes " fill " ++ (decimal f.volume ++ codes "\n")))))
