-- The rows of a batch, and the bytes of a row. Numbers are big endian.
use Rattle.std.specs.Prelude.{ℕ, ◌<◌, ◌≤◌, ◌^◌, Bool, List, ◌∷◌, ◌++◌, length, map, All}
use Rattle.std.specs.Int.{w16, w32, to_be_bytes}
use Rattle.std.specs.List.{list_any, IsDistinct}
use Rattle.std.specs.Ordering.{eq_by_cmp}
use Rattle.zh_returns.specs.declared.row.Row.{Row}
use Rattle.zh_returns.specs.Keys.{key_cmp}

-- the municipality in two bytes, the list in one, the replacement number and the votes in four each
abbrev pub row_spelling : Row → List ℕ
row_spelling row = to_be_bytes w16 row.municipality ++ (row.list ∷ (to_be_bytes w32 row.number ++ to_be_bytes w32 row.votes))

-- the municipality and the list of a row fit into its bytes
abbrev pub FitsRow : Row → Type 0
FitsRow row = (row.municipality < 2 ^ 16) × (row.list < 2 ^ 8)

-- numbers that fit into their bytes, and a replacement number from 1 on
pub record IsSpeakableRow (row : Row) : Type 0 where
  pub municipality : row.municipality < 2 ^ 16
  pub list : row.list < 2 ^ 8
  pub number : (1 ≤ row.number) × (row.number < 2 ^ 32)
  pub votes : row.votes < 2 ^ 32

-- the key of a row
abbrev pub row_key : Row → ℕ × ℕ
row_key row = (row.municipality, row.list)

-- whether one of the rows has this key
abbrev pub has_key : List Row → ℕ × ℕ → Bool
has_key rows key = list_any (eq_by_cmp key_cmp key) (map row_key rows)

-- the greatest number of rows of a batch
abbrev pub most_rows : ℕ
most_rows = 1000

-- the number of bytes of a row
abbrev pub row_length : ℕ
row_length = 11

-- the greatest number of bytes of the rows of a batch
abbrev pub rows_length : ℕ
rows_length = 11000

-- no more rows than a batch may have; each can be spelled, and no two have the same key
pub record AreRows (rows : List Row) : Type 0 where
  pub most : length rows ≤ most_rows
  pub speakable : All IsSpeakableRow rows
  pub keys : IsDistinct (eq_by_cmp key_cmp) (map row_key rows)

-- the same, with at least one row
pub record IsBatch (rows : List Row) : Type 0 where
  pub some : 1 ≤ length rows
  pub are_rows : AreRows rows
