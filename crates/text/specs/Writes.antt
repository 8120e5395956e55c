-- What a writer leaves in its output.
use Rattle.std.specs.Prelude.{ℕ, ◌+◌, min, max, cond, List, ◌++◌, length, take, drop, nat_lt, slice_set}

-- out with bs over its bytes from the index at on, as far as it reaches
unfoldable pub wrote : List ℕ → ℕ → List ℕ → List ℕ
wrote out at bs = take (length out) (take at out ++ (bs ++ drop (at + length bs) out))

-- the place after them, as far as out reaches
unfoldable pub reached : List ℕ → ℕ → List ℕ → ℕ
reached out at bs = min (at + length bs) (max at (length out))

-- one byte, and the place after it
abbrev pub stored : List ℕ → ℕ → ℕ → List ℕ
stored out at b = cond (nat_lt at (length out)) (slice_set out at b) out

abbrev pub next_at : List ℕ → ℕ → ℕ
next_at out at = cond (nat_lt at (length out)) (at + 1) at
