-- The names in a set-up, as they are in records. Constituencies, municipalities and groups are numbered from 1.
use Rattle.std.specs.Prelude.{ℕ, ◌-◌, List, [], slice_get}
use Rattle.std.specs.Option.{option_map_or}
use Rattle.zh_districts.specs.Canton.{Canton}

abbrev pub name_of_constituency : Canton → ℕ → List ℕ
name_of_constituency canton d = option_map_or (λ x. x.name) (slice_get canton.constituencies (d - 1)) []

abbrev pub name_of_municipality : Canton → ℕ → List ℕ
name_of_municipality canton m = option_map_or (λ x. x.name) (slice_get canton.municipalities (m - 1)) []

abbrev pub name_of_group : Canton → ℕ → List ℕ
name_of_group canton g = option_map_or (λ x. x.name) (slice_get canton.groups (g - 1)) []
