-- The groups and the constituencies of a sheet as comma-separated text: the values of their lines on the sheet, and the mark.
use Rattle.std.specs.Prelude.{ℕ, ◌-◌, Option, Some, None, List, [], ◌∷◌, ◌++◌, length, slice_index, if◌then◌else◌, codes, decimal}
use Rattle.std.specs.Option.{option_map_or}
use Rattle.zh_divisors.specs.Shares.{Apportionment}
use Rattle.zh_districts.specs.Canton.{persons_of}
use Rattle.zh_totals.specs.Totals.{constituency_votes}
use Rattle.zh_quorum.specs.Quorum.{group_votes}
use Rattle.zh_sheet.specs.Distribution.{Distribution}
use Rattle.zh_sheet.specs.Readings.{takes_part}
use Rattle.zh_text.specs.Each.{each_to}
use Rattle.zh_record_text.specs.Names.{name_of_constituency, name_of_group}
use Rattle.zh_record_text.specs.Records.{TableRecord, record_text}
use Rattle.zh_sheet_text.specs.Lists.{constituency_divisor, group_divisor, kind}
use Rattle.zh_sheet_text.specs.SheetText.{divisor_text}
use Rattle.zh_sheet_text.specs.declared.mark.Mark.{Mark}
use Rattle.zh_count_tables.specs.Votes.{yes_or_no}

-- the divisor of the persons or of the voter sums, as a fraction that is not reduced
abbrev pub shares_key : Apportionment → List ℕ
shares_key shares = decimal shares.num ++ (codes "/" ++ decimal shares.den)

-- the voter sum of a group, if it takes part
abbrev pub group_voters : Distribution → ℕ → Option ℕ
group_voters x g = if takes_part x g then Some (slice_index x.voters (g - 1)) else None

-- the names of the columns
abbrev pub group_columns : TableRecord
group_columns =
    codes "group" ∷ codes "quorum" ∷ codes "votes" ∷ codes "voters" ∷ codes "seats" ∷ codes "divisor" ∷ codes "key" ∷ codes "kind"
    ∷ codes "commands" ∷ codes "group_name" ∷ []

abbrev pub constituency_columns : TableRecord
constituency_columns =
    codes "constituency" ∷ codes "persons" ∷ codes "seats" ∷ codes "votes" ∷ codes "divisor" ∷ codes "key" ∷ codes "kind"
    ∷ codes "commands" ∷ codes "constituency_name" ∷ []

-- the record of a group: whether it takes part, its votes in the whole canton, its voter sum, its seats, its divisor if it has seats
abbrev pub seats_of_group : Distribution → Mark → ℕ → List ℕ
seats_of_group x mark g = record_text
    (decimal g ∷ yes_or_no (takes_part x g) ∷ decimal (group_votes x.totals g) ∷ option_map_or decimal (group_voters x g) []
    ∷ decimal (slice_index x.upper.seats (g - 1)) ∷ option_map_or divisor_text (group_divisor x g) [] ∷ shares_key x.upper
    ∷ kind mark ∷ decimal mark.accepted ∷ name_of_group x.totals.canton g ∷ [])

-- the record of a constituency: its persons, its seats, the votes there, its divisor
abbrev pub seats_of_constituency : Distribution → Mark → ℕ → List ℕ
seats_of_constituency x mark d = record_text
    (decimal d ∷ decimal (persons_of x.totals.canton d) ∷ decimal (slice_index x.seats.seats (d - 1))
    ∷ decimal (constituency_votes x.totals d) ∷ divisor_text (constituency_divisor x d) ∷ shares_key x.seats
    ∷ kind mark ∷ decimal mark.accepted ∷ name_of_constituency x.totals.canton d ∷ [])

-- the whole texts
abbrev pub groups_text : Distribution → Mark → List ℕ
groups_text x mark = record_text group_columns ++ each_to (length x.totals.canton.groups) (seats_of_group x mark)

abbrev pub constituencies_text : Distribution → Mark → List ℕ
constituencies_text x mark =
    record_text constituency_columns ++ each_to (length x.totals.canton.constituencies) (seats_of_constituency x mark)
