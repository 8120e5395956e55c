-- The rows of a table, of which there are few: a list with its bound, so that a member of a trait can hand out both.
use Rattle.std.specs.Prelude.{◌≤◌, List, length, Option}
use Rattle.book.specs.declared.entries.Entry.{Entry}

pub record Short : Type 0 where
  pub rows : List (Option Entry)
  pub few : length rows ≤ 256
