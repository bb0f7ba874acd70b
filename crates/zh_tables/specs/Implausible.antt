-- Implausible votes: of a return, more than the persons of the constituency can give; of a municipality, more than ten times those of all
-- other municipalities of its constituency together.
use Rattle.std.specs.Prelude.{◌≡◌, ◌≤◌, ℕ, ◌-◌, ◌*◌, ◌==◌, ◌&&◌, nat_lt, if◌then◌else◌, Bool, List, [], ◌∷◌, ◌++◌, length, slice_index}
use Rattle.std.specs.Prelude.{Result, Ok, Err, codes, decimal}
use Rattle.zh_divisors.specs.Shares.{Apportionment}
use Rattle.zh_districts.specs.Canton.{Canton, constituency_of, persons_of}
use Rattle.zh_districts.specs.SeatNames.{seats_name}
use Rattle.zh_districts.specs.declared.shares.SeatFault.{SeatFault}
use Rattle.zh_districts.specs.declared.shares.SeatFault.TheVariants as refusals
use Rattle.zh_returns.specs.Tally.{Tally, held}
use Rattle.zh_text.specs.Each.{each_to}
use Rattle.zh_record_text.specs.Names.{name_of_group, name_of_municipality}
use Rattle.zh_record_text.specs.Records.{record_text}
use Rattle.zh_tables.specs.Tables.{HasSeats, RefusesTable}
use Rattle.zh_tables.specs.declared.fault.ListFault.TheVariants.{Seats}
use Rattle.zh_tables.specs.declared.tables.Table.TheVariants.{Constituencies}
use Rattle.zh_tables.specs.Progress.{entry_votes, progress_of, progress_over, within}
use Rattle.zh_tables.specs.declared.progress.Progress.{Progress}
use Rattle.zh_tables.specs.declared.progress.Region.TheVariants.{Others}

-- the seats of the constituencies, or why they get none
abbrev pub AreFound : Canton → Result Apportionment SeatFault → Type 0
AreFound canton (Ok shares) = HasSeats canton shares.seats
AreFound canton (Err refusals.Memory) = ⊥
AreFound canton (Err refusal) = RefusesTable canton Constituencies (Seats refusal)

-- each constituency has its seats, and this municipality exists
abbrev pub IsSeated : Canton → List ℕ → ℕ → Type 0
IsSeated canton seats m =
    (length seats ≡ length canton.constituencies) × (1 ≤ m) × (m ≤ length canton.municipalities)

-- the most votes that a list can have in a constituency with these seats: each person has a vote for each seat
abbrev pub most_in : Canton → List ℕ → ℕ → ℕ
most_in canton seats d = persons_of canton d * slice_index seats (d - 1)

-- whether the return of a list has more votes than that
abbrev pub exceeds : Tally → List ℕ → ℕ → ℕ → Bool
exceeds tally seats m list =
    nat_lt (most_in tally.canton seats (constituency_of tally.canton m)) (entry_votes (held tally m list))

-- whether votes are more than ten times those of the others; there must be others, and each must have a return or a withdrawal
abbrev pub outweighs : ℕ → Progress → Bool
outweighs votes others =
    nat_lt 0 others.municipalities && (others.begun == others.municipalities) && nat_lt (10 * others.votes) votes

-- the other municipalities of a municipality's constituency, taken together
abbrev pub neighbours : Tally → ℕ → Progress
neighbours tally m = progress_over tally (within tally.canton (Others (constituency_of tally.canton m) m))

-- the record of a list in a municipality, or of all its lists together, with the votes and the limit that they exceed
abbrev pub implausible_row : ℕ → List ℕ → ℕ → ℕ → List ℕ → List ℕ → List ℕ
implausible_row m list votes limit name list_name =
    record_text (decimal m ∷ list ∷ decimal votes ∷ decimal limit ∷ name ∷ list_name ∷ [])

-- the record of a return with more votes than a list can have there
abbrev pub exceeding_row : Tally → List ℕ → ℕ → ℕ → List ℕ
exceeding_row tally seats m list =
    if exceeds tally seats m list then implausible_row m (decimal list) (entry_votes (held tally m list))
    (most_in tally.canton seats (constituency_of tally.canton m)) (name_of_municipality tally.canton m) (name_of_group tally.canton list)
    else []

-- these records of a municipality, list by list; none if the constituencies get no seats
abbrev pub exceeding_in : Tally → Result Apportionment SeatFault → ℕ → List ℕ
exceeding_in tally (Ok shares) m = each_to (length tally.canton.groups) (exceeding_row tally shares.seats m)
exceeding_in tally (Err refusal) m = []

-- the record of a municipality that outweighs the others; it then has votes, so it has returns itself
abbrev pub outweighing_row : Tally → ℕ → List ℕ
outweighing_row tally m =
    if outweighs (progress_of tally m).votes (neighbours tally m) then implausible_row m [] (progress_of tally m).votes
    (10 * (neighbours tally m).votes) (name_of_municipality tally.canton m) []
    else []

-- the records of both kinds of a municipality and, below, of all municipalities, in order
abbrev pub implausible_in : Tally → Result Apportionment SeatFault → ℕ → List ℕ
implausible_in tally found m = exceeding_in tally found m ++ outweighing_row tally m

abbrev pub implausible_rows : Tally → Result Apportionment SeatFault → List ℕ
implausible_rows tally found = each_to (length tally.canton.municipalities) (implausible_in tally found)

-- a line that says why votes are not compared with persons; 10 is LF
abbrev pub found_note : Result Apportionment SeatFault → List ℕ
found_note (Ok shares) = []
found_note (Err refusal) = seats_name refusal ++ codes ": votes are not compared with persons" ++ 10 ∷ []
