-- The returns of a group's lists: those that are held, and those that are due, one from each municipality where the list stands.
use Rattle.std.specs.Prelude.{ℕ, ◌==◌, ◌&&◌, Bool, true, is_some, count_by}
use Rattle.zh_districts.specs.Canton.{Canton, constituency_of, stands}
use Rattle.zh_returns.specs.Tally.{Tally, held}
use Rattle.zh_tables.specs.Progress.{municipalities}
use Rattle.zh_count_tables.specs.declared.returned.Region.{Region}
use Rattle.zh_count_tables.specs.declared.returned.Region.TheVariants as regions
use Rattle.zh_count_tables.specs.declared.returned.Returned.{Returned}

-- whether a municipality is in this region
abbrev pub lies_within : Canton → Region → ℕ → Bool
lies_within canton regions.Canton m = true
lies_within canton (regions.Constituency d) m = constituency_of canton m == d

-- whether a municipality is in this region and something is held there for group g; a withdrawal counts too
abbrev pub is_held : Tally → Region → ℕ → ℕ → Bool
is_held tally region g m = lies_within tally.canton region m && is_some (held tally m g)

-- whether a municipality is in this region and the list of group g stands there
abbrev pub is_due : Canton → Region → ℕ → ℕ → Bool
is_due canton region g m = lies_within canton region m && stands canton (constituency_of canton m) g

-- the returns of group g from a region
abbrev pub returned_of : Tally → Region → ℕ → Returned
returned_of tally region g = record {
  held = count_by (is_held tally region g) (municipalities tally.canton);
  due = count_by (is_due tally.canton region g) (municipalities tally.canton);
}
