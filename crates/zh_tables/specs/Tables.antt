-- The tables of a set-up. Constituencies, municipalities and groups are numbered from 1, and a list has the number of its group.
use Rattle.std.specs.Prelude.{◌≡◌, ◌<◌, ◌≤◌, ℕ, ◌-◌, List, [], ◌∷◌, ◌++◌, length, slice_index}
use Rattle.std.specs.Prelude.{if◌then◌else◌, codes, decimal, Bool, false, slice_index_or}
use Rattle.std.specs.List.{flat_map}
use Rattle.zh_divisors.specs.Fit.{IsTied}
use Rattle.zh_districts.specs.Canton.{Canton, persons_of, constituency_of, stands}
use Rattle.zh_districts.specs.Seats.{persons, AreSeats, IsFirstWithout}
use Rattle.zh_districts.specs.declared.shares.SeatFault.TheVariants as refusals
use Rattle.zh_text.specs.Each.{each_to}
use Rattle.zh_record_text.specs.Names.{name_of_constituency, name_of_group, name_of_municipality}
use Rattle.zh_record_text.specs.Records.{TableRecord, record_text}
use Rattle.zh_record_text.specs.declared.records.RecordFault.{RecordFault}
use Rattle.zh_record_text.specs.declared.records.RecordFault.TheVariants as records
use Rattle.zh_tables.specs.Problems.{AreProblems}
use Rattle.zh_tables.specs.declared.fault.ListFault.{ListFault}
use Rattle.zh_tables.specs.declared.fault.ListFault.TheVariants as faults
use Rattle.zh_tables.specs.declared.problems.SetupProblems.{SetupProblems}
use Rattle.zh_tables.specs.declared.tables.Part.{Part}
use Rattle.zh_tables.specs.declared.tables.Table.{Table}
use Rattle.zh_tables.specs.declared.tables.Table.TheVariants.{Constituencies, Municipalities, Groups, Lists, Problems, Returns}
use Rattle.zh_tables.specs.Returns.{HasPart, IsMissing, return_columns, return_row, returns_due}

-- the names of the columns
abbrev pub header : Table → TableRecord
header Constituencies = codes "number" ∷ codes "name" ∷ codes "persons" ∷ codes "seats" ∷ []
header Municipalities = codes "number" ∷ codes "name" ∷ codes "constituency" ∷ []
header Groups = codes "number" ∷ codes "name" ∷ []
header Lists = codes "constituency" ∷ codes "list" ∷ codes "constituency_name" ∷ codes "list_name" ∷ []
header Problems = codes "problem" ∷ codes "number" ∷ codes "name" ∷ []
header (Returns part) = return_columns

-- the record of a constituency with these seats
abbrev pub constituency_row : Canton → ℕ → ℕ → List ℕ
constituency_row canton d seats =
    record_text (decimal d ∷ name_of_constituency canton d ∷ decimal (persons_of canton d) ∷ decimal seats ∷ [])

abbrev pub municipality_row : Canton → ℕ → List ℕ
municipality_row canton m = record_text (decimal m ∷ name_of_municipality canton m ∷ decimal (constituency_of canton m) ∷ [])

abbrev pub group_row : Canton → ℕ → List ℕ
group_row canton g = record_text (decimal g ∷ name_of_group canton g ∷ [])

-- the record of a group's list in a constituency, if it stands there
abbrev pub list_row : Canton → ℕ → ℕ → List ℕ
list_row canton d g =
    if stands canton d g then record_text (decimal d ∷ decimal g ∷ name_of_constituency canton d ∷ name_of_group canton g ∷ []) else []

abbrev pub constituency_rows : Canton → List ℕ → List ℕ
constituency_rows canton seats =
    each_to (length canton.constituencies) (λ d. constituency_row canton d (slice_index seats (d - 1)))

-- the lists that stand in a constituency
abbrev pub lists_in : Canton → ℕ → List ℕ
lists_in canton d = each_to (length canton.groups) (list_row canton d)

-- the lists that stand, constituency by constituency
abbrev pub list_rows : Canton → List ℕ
list_rows canton = each_to (length canton.constituencies) (lists_in canton)

-- the returns that are due in a part of the set-up
abbrev pub return_rows : Canton → Part → List ℕ
return_rows canton part = flat_map return_row (returns_due canton part)

-- the record of this problem of a constituency, if it is marked
abbrev pub problem_row : Canton → List ℕ → List Bool → ℕ → List ℕ
problem_row canton problem marks d =
    if slice_index_or marks (d - 1) false then record_text (problem ∷ decimal d ∷ name_of_constituency canton d ∷ []) else []

-- the records of this problem, by constituency
abbrev pub marked_rows : Canton → List ℕ → List Bool → List ℕ
marked_rows canton problem marks = each_to (length canton.constituencies) (problem_row canton problem marks)

-- the records of all problems, one problem after another
abbrev pub problem_rows : Canton → SetupProblems → List ℕ
problem_rows canton problems =
    marked_rows canton (codes "no municipality") problems.no_municipality.items
    ++ marked_rows canton (codes "no list") problems.no_list.items
    ++ marked_rows canton (codes "no seat") problems.no_seat.items ++ marked_rows canton (codes "tied seats") problems.tied_seats.items

-- the seats of the constituencies, each of which has at least one
pub record HasSeats (canton : Canton) (seats : List ℕ) : Type 0 where
  pub are : AreSeats canton seats
  pub each : (k : ℕ) → k < length seats → 1 ≤ slice_index seats k

-- the rows of a table, without the names of its columns
abbrev pub AreLines : Canton → Table → List ℕ → Type 0
AreLines canton Constituencies lines = (seats : List ℕ) × HasSeats canton seats × (lines ≡ constituency_rows canton seats)
AreLines canton Municipalities lines = lines ≡ each_to (length canton.municipalities) (municipality_row canton)
AreLines canton Groups lines = lines ≡ each_to (length canton.groups) (group_row canton)
AreLines canton Lists lines = lines ≡ list_rows canton
AreLines canton Problems lines = (problems : SetupProblems) × AreProblems canton problems × (lines ≡ problem_rows canton problems)
AreLines canton (Returns part) lines = HasPart canton part × (lines ≡ return_rows canton part)

-- the text of a table
abbrev pub IsTableText : Canton → Table → List ℕ → Type 0
IsTableText canton table text = (lines : List ℕ) × AreLines canton table lines × (text ≡ record_text (header table) ++ lines)

-- the fault of a table for that of a record
abbrev pub RecordedAs : RecordFault → ListFault → Type 0
RecordedAs records.Memory e = e ≡ faults.Memory
RecordedAs records.Write e = e ≡ faults.Write

-- Why a table is refused. That of the constituencies: a seat is worth as much to one constituency as to another, or d is the first without
-- a seat. That of the returns: the set-up does not have the part whose returns are wanted. Refused memory, and a fault of the writer, do
-- not depend on the table.
abbrev pub RefusesTable : Canton → Table → ListFault → Type 0
RefusesTable canton table faults.Memory = Unit {0}
RefusesTable canton table faults.Write = Unit {0}
RefusesTable canton table (faults.Seats refusals.Memory) = Unit {0}
RefusesTable canton Constituencies (faults.Seats refusals.Tied) = IsTied (persons canton) canton.house
RefusesTable canton Constituencies (faults.Seats (refusals.NoSeat d)) =
    (seats : List ℕ) × AreSeats canton seats × IsFirstWithout seats d
RefusesTable canton (Returns part) (faults.NoMunicipality m) = IsMissing canton part (faults.NoMunicipality m)
RefusesTable canton (Returns part) (faults.NoConstituency d) = IsMissing canton part (faults.NoConstituency d)
RefusesTable canton table fault = ⊥
