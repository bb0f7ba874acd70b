-- The table that the arguments name.
use Rattle.std.specs.Prelude.{◌^◌, ℕ, List, [], ◌∷◌, Option, Some, None, ◌&&◌, if◌then◌else◌, nat_lt, find, decimal, codes}
use Rattle.std.specs.Prelude.{unwrap_or, option_and_then, option_map}
use Rattle.std.specs.Str.{bytes_eq}
use Rattle.std.specs.Str.Parse.{digits_value}
use Rattle.clap.specs.Words.{Row, Text, first_of}
use Rattle.zh_tables.specs.declared.tables.Part.{Part}
use Rattle.zh_tables.specs.declared.tables.Part.TheVariants.{Whole, Municipality, Constituency}
use Rattle.zh_tables.specs.declared.tables.Table.{Table}
use Rattle.zh_tables.specs.declared.tables.Table.TheVariants.{Constituencies, Municipalities, Groups, Lists, Problems, Returns}

-- the value given after `--name`, empty if there is none; clap makes sure that there is a required one
abbrev pub path_in : Text → List Row → Text
path_in name rows = unwrap_or (first_of name rows) []

-- the number below 2 ^ 32 with this numeral, which has no sign and no leading zero
abbrev pub number_in : Text → Option ℕ
number_in text = let n = digits_value 10 text in if nat_lt n (2 ^ 32) && bytes_eq text (decimal n) then Some n else None

-- the part of the set-up: a municipality or a constituency by its number, or the whole if neither is given; none if both are given, or a
-- text that is not a numeral
abbrev pub part_of : Option Text → Option Text → Option Part
part_of None None = Some Whole
part_of (Some m) None = option_map Municipality (number_in m)
part_of None (Some d) = option_map Constituency (number_in d)
part_of (Some m) (Some d) = None

-- the name of each table
abbrev pub name_of_table : Table → Text
name_of_table Constituencies = codes "constituencies"
name_of_table Municipalities = codes "municipalities"
name_of_table Groups = codes "groups"
name_of_table Lists = codes "lists"
name_of_table Problems = codes "problems"
name_of_table (Returns part) = codes "returns"

-- the tables of a part; only the returns can be limited to a municipality or a constituency
abbrev pub tables_for : Part → List Table
tables_for Whole = Constituencies ∷ Municipalities ∷ Groups ∷ Lists ∷ Problems ∷ Returns Whole ∷ []
tables_for part = Returns part ∷ []

-- the table with this name and part, if there is one
abbrev pub table_named : Text → Part → Option Table
table_named name part = find (λ table. bytes_eq name (name_of_table table)) (tables_for part)

-- the table that the arguments name, if there is one
abbrev pub table_in : List Row → Option Table
table_in rows =
    option_and_then (table_named (path_in (codes "of") rows))
    (part_of (first_of (codes "municipality") rows) (first_of (codes "constituency") rows))
