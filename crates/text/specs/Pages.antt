-- What a page of text holds.
use Rattle.std.specs.Prelude.{ℕ, ◌-◌, List, ◌++◌, length, take}

-- a page of n bytes with bs after what stands there, as far as it has room
abbrev pub printed : ℕ → List ℕ → List ℕ → List ℕ
printed n page bs = page ++ take (n - length page) bs
