-- The rows of votes that the arguments ask for.
use Rattle.std.specs.Prelude.{List, [], ◌∷◌, Option, Some, None, codes, find}
use Rattle.std.specs.Str.{bytes_eq}
use Rattle.clap.specs.Words.{Row, Text, first_of}
use Rattle.zh_count_tables.specs.declared.votes.VotesOf.{VotesOf}
use Rattle.zh_count_tables.specs.declared.votes.VotesOf.TheVariants.{Lists, Groups}

-- the name of each kind of row
abbrev pub name_of_votes : VotesOf → Text
name_of_votes Lists = codes "lists"
name_of_votes Groups = codes "groups"

-- the kind of row with this name, if there is one
abbrev pub votes_named : Text → Option VotesOf
votes_named name = find (λ of. bytes_eq name (name_of_votes of)) (Lists ∷ Groups ∷ [])

-- the kind of row with the given name; without a name it is the lists
abbrev pub votes_by : Option Text → Option VotesOf
votes_by None = Some Lists
votes_by (Some name) = votes_named name

-- the kind of row that the arguments ask for, if there is one
abbrev pub votes_asked : List Row → Option VotesOf
votes_asked rows = votes_by (first_of (codes "of") rows)
