-- What the tables of a count mean: a place for each key, and a flag for each municipality.
use Rattle.std.specs.Prelude.{◌≡◌, ℕ, ◌+◌, ◌*◌, ◌-◌, ◌/◌, ◌%◌, ◌^◌, ◌==◌, Bool, true, false}
use Rattle.std.specs.Prelude.{Option, Some, None, IfSome, List, [], ◌∷◌, get_or}
use Rattle.std.specs.Ordering.{nat_cmp}
use Rattle.std.specs.FinMap as map
use Rattle.std.specs.FinSet as set
use Rattle.zh_returns.specs.declared.entry.Entry.{Entry}
use Rattle.zh_districts.specs.Canton.{Canton}
use Rattle.zh_districts.specs.Misplaced.{misplaced}
use Rattle.zh_returns.specs.declared.command.Format.{Format}
use Rattle.zh_returns.specs.Limits.{IsEntryOf}
use Rattle.zh_returns.specs.Keys.{key_cmp}
use Rattle.zh_returns.specs.Tally.{Tally}

-- the key of a place: each municipality has 32 places, one for each list
abbrev pub key_of : ℕ → ℕ × ℕ
key_of place = (place / 32 + 1, place % 32 + 1)

-- the place of a key
abbrev pub place_of : ℕ → ℕ → ℕ
place_of municipality list = (municipality - 1) * 32 + (list - 1)

-- the entries that the table has from this place on, under the keys of their places
abbrev pub entries_from : ℕ → List (Option Entry) → List ((ℕ × ℕ) × Entry)
entries_from place [] = []
entries_from place (None ∷ table) = entries_from (place + 1) table
entries_from place (Some entry ∷ table) = (key_of place, entry) ∷ entries_from (place + 1) table

abbrev pub entries_of : List (Option Entry) → map.FinMap key_cmp Entry
entries_of table = map.from_entries (entries_from 0 table)

-- the municipalities whose flag is set; the first flag is that of this municipality
abbrev pub flagged_from : ℕ → List Bool → List ℕ
flagged_from municipality [] = []
flagged_from municipality (false ∷ flags) = flagged_from (municipality + 1) flags
flagged_from municipality (true ∷ flags) = municipality ∷ flagged_from (municipality + 1) flags

abbrev pub closed_of : List Bool → set.FinSet nat_cmp
closed_of flags = set.from_list (flagged_from 1 flags)

-- the count in these tables
abbrev pub tally_from : Canton → List (Option Entry) → List Bool → ℕ → Tally
tally_from canton table flags accepted =
    record { canton = canton; entries = entries_of table; closed = closed_of flags; accepted = accepted }

-- an entry within the limits of a format, of a list that stands in its municipality
pub record IsHeldAt (format : Format) (canton : Canton) (key : ℕ × ℕ) (entry : Entry) : Type 0 where
  pub limits : IsEntryOf format entry
  pub place : misplaced canton key.0 key.1 ≡ None

-- every entry of a table is of this kind, for the key of its place
abbrev pub IsTable : Format → Canton → List (Option Entry) → Type 0
IsTable format canton table = (place : ℕ) → IfSome (get_or table place None) (IsHeldAt format canton (key_of place))

-- whether a bit of a number is set; bit 0 is the lowest
abbrev pub bit_of : ℕ → ℕ → Bool
bit_of number bit = number / 2 ^ bit % 2 == 1
