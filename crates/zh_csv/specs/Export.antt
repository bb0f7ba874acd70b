-- The text of a count. 44 is the comma, 10 is LF.
use Rattle.std.specs.Prelude.{ℕ, List, [], ◌∷◌, ◌++◌, length, Option, Some, None, codes, decimal}
use Rattle.zh_returns.specs.declared.entry.Entry.{Entry}
use Rattle.zh_returns.specs.Tally.{Tally, held}
use Rattle.zh_text.specs.Each.{each_to}
use Rattle.zh_csv.specs.Records.{Record, names}

-- the fields after the first, each after a comma, and the line end
abbrev pub following : Record → List ℕ
following [] = 10 ∷ []
following (field ∷ fields) = 44 ∷ (field ++ following fields)

-- the line of a record
abbrev pub line : Record → List ℕ
line [] = 10 ∷ []
line (field ∷ fields) = field ++ following fields

-- votes, or `withdrawn`
abbrev pub votes_field : Option ℕ → List ℕ
votes_field (Some votes) = decimal votes
votes_field None = codes "withdrawn"

-- the record of an entry
abbrev pub record_of : ℕ → ℕ → Entry → Record
record_of municipality list entry = decimal municipality ∷ decimal list ∷ decimal entry.number ∷ votes_field entry.votes ∷ []

-- the line of an entry, if there is one
abbrev pub entry_text : ℕ → ℕ → Option Entry → List ℕ
entry_text municipality list None = []
entry_text municipality list (Some entry) = line (record_of municipality list entry)

-- the line of a list in a municipality
abbrev pub list_text : Tally → ℕ → ℕ → List ℕ
list_text tally municipality list = entry_text municipality list (held tally municipality list)

-- the lines of a municipality, list by list
abbrev pub municipality_text : Tally → ℕ → List ℕ
municipality_text tally municipality = each_to (length tally.canton.groups) (list_text tally municipality)

-- the line with the names of the columns, then the lines of what is held, by municipality
abbrev pub export_text : Tally → List ℕ
export_text tally = line names ++ each_to (length tally.canton.municipalities) (municipality_text tally)
