-- The view that the flags ask for.
use Rattle.std.specs.Prelude.{Bool, true, false, List, Option, Some, None, codes}
use Rattle.std.specs.Str.{bytes_eq}
use Rattle.clap.specs.Words.{Row, Text}
use Rattle.zh_arguments.specs.Table.{path_in}
use Rattle.zh_tables.specs.declared.view.View.{View}
use Rattle.zh_tables.specs.declared.view.View.TheVariants.{Municipalities, Constituencies, Missing, Implausible}

-- whether a flag was given; clap then gives it the value `true`
abbrev pub has_flag : Text → List Row → Bool
has_flag name rows = bytes_eq (path_in name rows) (codes "true")

-- the view by three flags, which exclude one another
abbrev pub view_of : Bool → Bool → Bool → Option View
view_of false false false = Some Municipalities
view_of true false false = Some Constituencies
view_of false true false = Some Missing
view_of false false true = Some Implausible
view_of constituencies missing implausible = None

-- the view that the arguments ask for
abbrev pub view_in : List Row → Option View
view_in rows =
    view_of (has_flag (codes "constituencies") rows) (has_flag (codes "missing") rows) (has_flag (codes "implausible") rows)
