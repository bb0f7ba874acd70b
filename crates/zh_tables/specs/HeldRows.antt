-- How many rows an export has, and how many returns are due.
use Rattle.std.specs.Prelude.{ℕ, length}
use Rattle.zh_districts.specs.Canton.{Canton}
use Rattle.zh_tables.specs.Returns.{returns_due}
use Rattle.zh_tables.specs.declared.held_rows.HeldRows.{HeldRows}
use Rattle.zh_tables.specs.declared.tables.Part.TheVariants.{Whole}

-- this number of rows is held, and one return is due for each list that stands in each municipality
abbrev pub rows_held : Canton → ℕ → HeldRows
rows_held canton held = record { held = held; due = length (returns_due canton Whole) }
