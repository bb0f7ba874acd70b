-- The returns that are due: in each municipality one for each list that stands in its constituency.
use Rattle.std.specs.Prelude.{◌≡◌, ◌≤◌, ◌==◌, ℕ, Bool, true, false, List, [], ◌∷◌, length, nat_lt, if◌then◌else◌, codes, decimal}
use Rattle.zh_districts.specs.Canton.{Canton, constituency_of, stands}
use Rattle.zh_text.specs.Each.{each_to}
use Rattle.zh_record_text.specs.Records.{TableRecord, record_text}
use Rattle.zh_tables.specs.declared.due.Due.{Due}
use Rattle.zh_tables.specs.declared.fault.ListFault.{ListFault}
use Rattle.zh_tables.specs.declared.fault.ListFault.TheVariants as faults
use Rattle.zh_tables.specs.declared.tables.Part.{Part}
use Rattle.zh_tables.specs.declared.tables.Part.TheVariants as parts
use Rattle.zh_tables.specs.declared.tables.Table.{Table}
use Rattle.zh_tables.specs.declared.tables.Table.TheVariants.{Returns}

-- the return of a list in a municipality, if the list stands there
abbrev pub due_of : Canton → ℕ → ℕ → List Due
due_of canton m list = if stands canton (constituency_of canton m) list then record { municipality = m; list = list } ∷ [] else []

-- the returns that are due in a municipality, list by list
abbrev pub returns_in : Canton → ℕ → List Due
returns_in canton m = each_to (length canton.groups) (due_of canton m)

-- whether a municipality is in this part of the set-up
abbrev pub is_in : Canton → Part → ℕ → Bool
is_in canton parts.Whole m = true
is_in canton (parts.Municipality number) m = m == number
is_in canton (parts.Constituency d) m = constituency_of canton m == d

-- the returns that are due in a municipality, if it is in this part
abbrev pub returns_within : Canton → Part → ℕ → List Due
returns_within canton part m = if is_in canton part m then returns_in canton m else []

-- the returns that are due in a part of the set-up, by municipality and list
abbrev pub returns_due : Canton → Part → List Due
returns_due canton part = each_to (length canton.municipalities) (returns_within canton part)

-- the names of the columns of the table of returns
abbrev pub return_columns : TableRecord
return_columns = codes "municipality" ∷ codes "list" ∷ codes "number" ∷ codes "votes" ∷ []

-- the record of a return: number 1, and an empty field for the votes
abbrev pub return_row : Due → List ℕ
return_row due = record_text (decimal due.municipality ∷ decimal due.list ∷ codes "1" ∷ [] ∷ [])

-- whether a table has more returns than one `load` takes
abbrev pub exceeds_load : Canton → Table → Bool
exceeds_load canton (Returns part) = nat_lt 1000 (length (returns_due canton part))
exceeds_load canton table = false

-- the set-up has this part
abbrev pub HasPart : Canton → Part → Type 0
HasPart canton parts.Whole = Unit {0}
HasPart canton (parts.Municipality m) = (1 ≤ m) × (m ≤ length canton.municipalities)
HasPart canton (parts.Constituency d) = (1 ≤ d) × (d ≤ length canton.constituencies)

-- the fault says that the set-up does not have this part
abbrev pub IsMissing : Canton → Part → ListFault → Type 0
IsMissing canton (parts.Municipality m) fault = (fault ≡ faults.NoMunicipality m) × (HasPart canton (parts.Municipality m) → ⊥)
IsMissing canton (parts.Constituency d) fault = (fault ≡ faults.NoConstituency d) × (HasPart canton (parts.Constituency d) → ⊥)
IsMissing canton parts.Whole fault = ⊥
