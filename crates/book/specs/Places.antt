-- Questions on the places of the order table.
use Rattle.std.specs.Prelude.{ℕ, ◌+◌, Bool, true, false, cond, List, [], ◌∷◌, take, drop, ◌==◌, slice_index_or}
use Rattle.book.specs.Bids.{Place, vacant, held}
use Rattle.book.specs.Verdicts.{is_block}

-- the place of a row, vacant beyond the end
abbrev pub place_at : List Place → ℕ → Place
place_at ps r = slice_index_or ps r vacant

abbrev pub taken : Place → Bool
taken vacant = false
taken (held b) = true

abbrev pub owned_by : ℕ → Place → Bool
owned_by m vacant = false
owned_by m (held b) = b.member == m

abbrev pub holds_block : Place → Bool
holds_block vacant = false
holds_block (held b) = is_block b.product

-- how many places hold blocks
unfoldable pub blocks_held : List Place → ℕ
blocks_held [] = 0
blocks_held (p ∷ ps) = cond (holds_block p) 1 0 + blocks_held ps

-- how many places other than that of row r hold blocks
unfoldable pub others : ℕ → List Place → ℕ
others r ps = blocks_held (take r ps) + blocks_held (drop (r + 1) ps)
