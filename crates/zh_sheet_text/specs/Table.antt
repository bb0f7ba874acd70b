-- A table for people (docs/FORMATS.md, "Tables for people"): wide, with a heading and a column for each field, if its lines then have at
-- most 80 characters; otherwise tall, without a heading and with a line for each field.
use Rattle.std.specs.Prelude.{ℕ, ◌+◌, ◌-◌, ◌≤◌, ◌==◌, nat_le, nat_lt, ◌||◌, Bool, max, List, [], ◌∷◌, ◌++◌, fold, replicate}
use Rattle.std.specs.Prelude.{if◌then◌else◌, codes, count_by, sum_by}
use Rattle.std.specs.List.{range_with_len}
use Rattle.zh_text.specs.Each.{each_to}
use Rattle.zh_sheet_text.specs.declared.table.TablePlace.{TablePlace}
use Rattle.zh_sheet_text.specs.declared.table.TablePlace.TheVariants.{Head, At, Total}

-- the number of characters of a text in UTF-8: each byte counts, except continuation bytes (128 to 191)
abbrev pub begins_character : ℕ → Bool
begins_character byte = nat_lt byte 128 || nat_le 192 byte

abbrev pub characters : List ℕ → ℕ
characters text = count_by begins_character text

-- a text with spaces after or before it, up to this number of characters; a longer text is not cut; 32 is a space
abbrev pub on_left : ℕ → List ℕ → List ℕ
on_left width text = text ++ replicate (width - characters text) 32

abbrev pub on_right : ℕ → List ℕ → List ℕ
on_right width text = replicate (width - characters text) 32 ++ text

-- the cells of a table; line 0 is the heading, and column 0 says what each line is about
pub record Grid : Type 0 where
  pub lines : ℕ
  pub columns : ℕ
  pub cell : ℕ → ℕ → List ℕ

-- what a line or a column is about, in a table of `last` constituencies or groups: the heading or names, one of these, or all
abbrev pub table_place : ℕ → ℕ → TablePlace
table_place last number = if number == 0 then Head else if nat_le number last then At number else Total

abbrev pub IsTablePlace : ℕ → TablePlace → Type 0
IsTablePlace last Head = Unit {0}
IsTablePlace last (At number) = (1 ≤ number) × (number ≤ last)
IsTablePlace last Total = Unit {0}

-- the number of characters in the longest cell of a column, at least three; first without the heading
abbrev pub widest_below : Grid → ℕ → ℕ
widest_below grid column = fold (λ most line. max most (characters (grid.cell line column))) 3 (range_with_len 1 grid.lines)

abbrev pub widest : Grid → ℕ → ℕ
widest grid column = max (widest_below grid column) (characters (grid.cell 0 column))

-- two spaces come before each column except the first
abbrev pub column_width : Grid → ℕ → ℕ
column_width grid column = 2 + widest grid column

abbrev pub table_width : Grid → ℕ
table_width grid = widest grid 0 + sum_by (column_width grid) (range_with_len 1 grid.columns)

-- a line of the wide table; 10 is LF
abbrev pub wide_cells : Grid → ℕ → List ℕ
wide_cells grid line = each_to grid.columns (λ column. on_right (column_width grid column) (grid.cell line column))

abbrev pub wide_line : Grid → ℕ → List ℕ
wide_line grid line = on_left (widest grid 0) (grid.cell line 0) ++ wide_cells grid line ++ 10 ∷ []

abbrev pub wide_table : Grid → List ℕ
wide_table grid = wide_line grid 0 ++ each_to grid.lines (wide_line grid)

-- the width of a field in the tall table: two spaces, and the longest cell of all columns except the first, without the heading, at least
-- three
abbrev pub tall_width : Grid → ℕ
tall_width grid = 2 + fold (λ most column. max most (widest_below grid column)) 3 (range_with_len 1 grid.columns)

-- a field in a line of its own; a line of the tall table with its last field, and below it a line for each other field
abbrev pub field_line : Grid → ℕ → ℕ → List ℕ
field_line grid line column =
    codes "  " ++ on_left 40 (grid.cell 0 column) ++ on_right (tall_width grid) (grid.cell line column) ++ 10 ∷ []

abbrev pub tall_lines : Grid → ℕ → List ℕ
tall_lines grid line =
    on_left 42 (grid.cell line 0) ++ on_right (tall_width grid) (grid.cell line grid.columns) ++ 10 ∷ []
    ++ each_to (grid.columns - 1) (field_line grid line)

abbrev pub tall_table : Grid → List ℕ
tall_table grid = each_to grid.lines (tall_lines grid)

-- the whole table
abbrev pub grid_text : Grid → List ℕ
grid_text grid = if nat_le (table_width grid) 80 then wide_table grid else tall_table grid
