-- What a sheet says of a group or a list.
use Rattle.std.specs.Prelude.{ℕ, ◌+◌, ◌-◌, Bool, false, ◌==◌, Option, slice_index_or, position}
use Rattle.std.specs.Option.{option_map_or}
use Rattle.zh_matrices.specs.SeatMatrix.{seats_of}
use Rattle.zh_sheet.specs.Distribution.{Distribution, seated_groups}

-- the place of a group among the seated groups, from 0
abbrev pub column_of : Distribution → ℕ → Option ℕ
column_of x g = position (λ seated. seated == g) (seated_groups x.upper.seats)

abbrev pub takes_part : Distribution → ℕ → Bool
takes_part x g = slice_index_or x.taking (g - 1) false

-- the seats of a list, 0 if its group has none
abbrev pub list_seats : Distribution → ℕ → ℕ → ℕ
list_seats x d g = option_map_or (λ column. seats_of x.lower d (column + 1)) (column_of x g) 0
