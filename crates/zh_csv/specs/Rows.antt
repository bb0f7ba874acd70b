-- The rows of an export: what is held for a municipality and a list.
use Rattle.std.specs.Prelude.{◌≡◌, ℕ, ◌<◌, ◌≤◌, ◌^◌, Bool, List, map, All, None, IfSome, unwrap_or}
use Rattle.std.specs.List.{list_any, IsDistinct}
use Rattle.std.specs.Ordering.{eq_by_cmp}
use Rattle.std.specs.FinMap as map_of
use Rattle.zh_districts.specs.Canton.{Canton}
use Rattle.zh_returns.specs.Keys.{key_cmp}
use Rattle.zh_returns.specs.declared.row.Row.{Row}
use Rattle.zh_returns.specs.declared.entry.Entry.{Entry}
use Rattle.zh_returns.specs.Origin.{no_desk}
use Rattle.zh_returns.specs.Tally.{Tally, empty}
use Rattle.zh_returns.specs.RowFaults.{unfit}
use Rattle.zh_totals.specs.Counting.{totals_of}
use Rattle.zh_totals.specs.Totals.{VoteTotals}
use Rattle.zh_csv.specs.Export.{record_of}
use Rattle.zh_csv.specs.Records.{Record}
use Rattle.zh_csv.specs.declared.held_sums.HeldRow.{HeldRow}

-- the key of a row
abbrev pub held_key : HeldRow → ℕ × ℕ
held_key row = (row.municipality, row.list)

-- the entry of a row; an export does not say where it came from
abbrev pub held_entry : HeldRow → Entry
held_entry row = record { origin = no_desk; number = row.number; votes = row.votes }

-- the record of a row in an export
abbrev pub held_fields : HeldRow → Record
held_fields row = record_of row.municipality row.list (held_entry row)

-- the same as a row of a batch; a withdrawn list has 0 votes
abbrev pub as_row : HeldRow → Row
as_row row = record { municipality = row.municipality; list = row.list; number = row.number; votes = unwrap_or row.votes 0 }

-- the numbers are below 2 ^ 32, and the replacement number is at least 1
pub record IsHeldRow (row : HeldRow) : Type 0 where
  pub municipality : row.municipality < 2 ^ 32
  pub list : row.list < 2 ^ 32
  pub number : (1 ≤ row.number) × (row.number < 2 ^ 32)
  pub votes : IfSome row.votes (λ votes. votes < 2 ^ 32)

-- whether one of the rows has a key
abbrev pub holds_key : List HeldRow → ℕ × ℕ → Bool
holds_key rows key = list_any (eq_by_cmp key_cmp key) (map held_key rows)

-- rows of a set-up: each of a list that stands in its municipality, with at most as many votes as a return can have, and no two with the
-- same key
pub record AreHeld (canton : Canton) (rows : List HeldRow) : Type 0 where
  pub readable : All IsHeldRow rows
  pub fit : All (λ row. unfit canton (as_row row) ≡ None) rows
  pub keys : IsDistinct (eq_by_cmp key_cmp) (map held_key rows)

-- the count in which these rows are held
abbrev pub count_of : Canton → List HeldRow → Tally
count_of canton rows = record (empty canton) { entries = map_of.from_entries (map (λ row. (held_key row, held_entry row)) rows) }

-- the votes of each list in each constituency, summed over the rows
abbrev pub sums_of : Canton → List HeldRow → VoteTotals
sums_of canton rows = totals_of (count_of canton rows)
