-- The source and the form of the requested seats.
use Rattle.std.specs.Prelude.{Bool, true, false, List, [], ◌∷◌, Option, Some, None, codes, find, is_some}
use Rattle.std.specs.Str.{bytes_eq}
use Rattle.clap.specs.Words.{Row, Text, first_of}
use Rattle.zh_arguments.specs.View.{has_flag}
use Rattle.zh_arguments.specs.declared.seats.Layout.{Layout}
use Rattle.zh_arguments.specs.declared.seats.SeatsOf.{SeatsOf}
use Rattle.zh_arguments.specs.declared.seats.SeatsOf.TheVariants.{Lists, Groups, Constituencies}
use Rattle.zh_arguments.specs.declared.seats.Source.{Source}
use Rattle.zh_arguments.specs.declared.seats.Source.TheVariants.{Disk, Sheet}

-- whether a value was given
abbrev pub is_given : Text → List Row → Bool
is_given name rows = is_some (first_of name rows)

-- The source, by whether a disk, a sheet and the flag `--final` are given: exactly one of disk and sheet, and the flag only with a disk.
abbrev pub source_of : Bool → Bool → Bool → Option Source
source_of true false is_final = Some (Disk is_final)
source_of false true false = Some Sheet
source_of disk sheet is_final = None

-- the source that the arguments ask for
abbrev pub source_in : List Row → Option Source
source_in rows = source_of (is_given (codes "disk") rows) (is_given (codes "sheet") rows) (has_flag (codes "final") rows)

-- the name of each kind of record
abbrev pub name_of_seats : SeatsOf → Text
name_of_seats Lists = codes "lists"
name_of_seats Groups = codes "groups"
name_of_seats Constituencies = codes "constituencies"

-- the kind of record with this name, if there is one
abbrev pub records_named : Text → Option SeatsOf
records_named name = find (λ of. bytes_eq name (name_of_seats of)) (Lists ∷ Groups ∷ Constituencies ∷ [])

-- the kind of record with the given name; without a name it is the lists
abbrev pub records_by : Option Text → Option SeatsOf
records_by None = Some Lists
records_by (Some name) = records_named name

-- the form for this kind of record, by whether the flag `--table` is given
abbrev pub layout_of : Option SeatsOf → Bool → Option Layout
layout_of None is_table = None
layout_of (Some of) is_table = Some (record { of = of; is_table = is_table })

-- the form that the arguments ask for
abbrev pub layout_in : List Row → Option Layout
layout_in rows = layout_of (records_by (first_of (codes "of") rows)) (has_flag (codes "table") rows)
