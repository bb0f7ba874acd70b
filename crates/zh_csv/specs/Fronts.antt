-- A reader of the front of a text.
use Rattle.std.specs.Prelude.{ℕ, List, Option, option_map}
use Rattle.zh_csv.specs.Front.{front, most_read}
use Rattle.zh_csv.specs.declared.front_reader.FrontReader.{FrontReader}

-- the rest of the front, given the rest of the text
abbrev pub front_left : {R : Type 0} → (R → Option (List ℕ)) → FrontReader R → Option (List ℕ)
front_left remaining reader = option_map (front most_read reader.limit.point reader.limit.left) (remaining reader.inner)
