-- The rows that bytes spell.
use Rattle.std.specs.Prelude.{◌≡◌, ℕ, zero, suc, ◌/◌, List, [], ◌∷◌, length, take, drop, slice_index}
use Rattle.std.specs.Int.{w16, w32, from_be_bytes}
use Rattle.std.specs.List.{flat_map}
use Rattle.zh_returns.specs.declared.row.Row.{Row}
use Rattle.zh_returns.specs.declared.rows.Rows.TheInside.{Inside}
use Rattle.zh_returns.specs.Rows.{row_spelling, row_length, IsBatch}

-- the row of eleven bytes
abbrev pub row_from : List ℕ → Row
row_from bytes = record {
  municipality = from_be_bytes w16 (take 2 bytes);
  list = slice_index bytes 2;
  number = from_be_bytes w32 (take 4 (drop 3 bytes));
  votes = from_be_bytes w32 (take 4 (drop 7 bytes));
}

-- n rows, each from the next eleven bytes
unfoldable pub rows_from : ℕ → List ℕ → List Row
rows_from zero bytes = []
rows_from (suc n) bytes = row_from bytes ∷ rows_from n (drop row_length bytes)

-- all rows that the bytes spell
abbrev pub rows_in : List ℕ → List Row
rows_in bytes = rows_from (length bytes / row_length) bytes

abbrev pub rows_inside : Inside → List Row
rows_inside r = rows_in r.bytes.now

-- the rows have these bytes and are a batch
pub record AreRowBytes (r : Inside) : Type 0 where
  pub spelling : flat_map row_spelling (rows_inside r) ≡ r.bytes.now
  pub batch : IsBatch (rows_inside r)
