-- Why a list does not stand in a municipality.
use Rattle.std.specs.Prelude.{ℕ, not, if◌then◌else◌, Option, Some, None}
use Rattle.zh_districts.specs.Canton.{Canton, has_municipality, stands, constituency_of}
use Rattle.zh_districts.specs.declared.setup.Misplaced.{Misplaced}
use Rattle.zh_districts.specs.declared.setup.Misplaced.TheVariants as reasons

-- `Municipality` if the set-up has no municipality with this number; otherwise `List` if the list does not stand in the
-- constituency of the municipality; otherwise `None`
abbrev pub misplaced : Canton → ℕ → ℕ → Option Misplaced
misplaced canton municipality list =
    if not (has_municipality canton municipality) then Some reasons.Municipality
    else if not (stands canton (constituency_of canton municipality) list) then Some reasons.List
    else None
