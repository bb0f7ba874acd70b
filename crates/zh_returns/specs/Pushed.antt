-- The rows that were pushed into a writer.
use Rattle.std.specs.Prelude.{◌≡◌, ℕ, ◌*◌, ◌≤◌, List, length, take}
use Rattle.std.specs.List.{flat_map}
use Rattle.zh_returns.specs.declared.row.Row.{Row}
use Rattle.zh_returns.specs.Rows.{row_spelling, row_length, AreRows}
use Rattle.zh_returns.specs.RowBytes.{rows_from}

-- the rows that were pushed so far, in order, and the number of bytes that there are in all
pub record Pushed : Type 0 where
  pub rows : List Row
  pub room : ℕ

-- the bytes begin with `count` rows, which can be in one batch
pub record AreWritten (bytes : List ℕ) (count : ℕ) : Type 0 where
  pub within : row_length * count ≤ length bytes
  pub spelling : flat_map row_spelling (rows_from count bytes) ≡ take (row_length * count) bytes
  pub rows : AreRows (rows_from count bytes)
