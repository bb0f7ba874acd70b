-- The seats of the lists as comma-separated text. Each list that stands has a record, even if its group does not take part, so the records
-- of a constituency contain all its votes.
use Rattle.std.specs.Prelude.{ℕ, ◌-◌, Option, Some, None, option_map, List, [], ◌∷◌, ◌++◌, length, slice_index}
use Rattle.std.specs.Prelude.{if◌then◌else◌, codes, decimal}
use Rattle.std.specs.Option.{option_map_or}
use Rattle.zh_districts.specs.Canton.{stands}
use Rattle.zh_totals.specs.Totals.{votes_in}
use Rattle.zh_upper.specs.VoterNumbers.{voter_number}
use Rattle.zh_sheet.specs.Distribution.{Distribution}
use Rattle.zh_sheet.specs.Readings.{column_of, list_seats, takes_part}
use Rattle.zh_text.specs.Each.{each_to}
use Rattle.zh_record_text.specs.Names.{name_of_constituency, name_of_group}
use Rattle.zh_record_text.specs.Records.{TableRecord, record_text}
use Rattle.zh_sheet_text.specs.SheetText.{divisor_text}
use Rattle.zh_sheet_text.specs.Quotients.{quotient}
use Rattle.zh_sheet_text.specs.declared.mark.Mark.{Mark}
use Rattle.zh_sheet_text.specs.declared.mark.Source.{Source}
use Rattle.zh_sheet_text.specs.declared.mark.Source.TheVariants.{Count, Sheet}

-- the voter number of a list, if its group takes part
abbrev pub list_voters : Distribution → ℕ → ℕ → Option ℕ
list_voters x d g =
    if takes_part x g then Some (voter_number (votes_in x.totals d g) (slice_index x.seats.seats (d - 1))) else None

-- the divisor of a constituency, and that of a group if it has seats, in millionths
abbrev pub constituency_divisor : Distribution → ℕ → ℕ
constituency_divisor x d = slice_index x.lower.divisors.of_rows (d - 1)

abbrev pub group_divisor : Distribution → ℕ → Option ℕ
group_divisor x g = option_map_or (λ k. Some (slice_index x.lower.divisors.of_columns k)) (column_of x g) None

-- the quotient of a list in millionths, rounded down, if its group has seats
abbrev pub list_quotient : Distribution → ℕ → ℕ → Option ℕ
list_quotient x d g = option_map (quotient (votes_in x.totals d g) (constituency_divisor x d)) (group_divisor x g)

-- `final` or `provisional`
abbrev pub finality : Mark → List ℕ
finality mark = if mark.is_final then codes "final" else codes "provisional"

-- `final` or `provisional`, after `stated` if a published sheet says so
abbrev pub kind_from : Source → Mark → List ℕ
kind_from Count mark = finality mark
kind_from Sheet mark = codes "stated " ++ finality mark

abbrev pub kind : Mark → List ℕ
kind mark = kind_from mark.source mark

-- the names of the columns
abbrev pub seats_columns : TableRecord
seats_columns =
    codes "constituency" ∷ codes "group" ∷ codes "votes" ∷ codes "voters" ∷ codes "seats"
    ∷ codes "constituency_divisor" ∷ codes "group_divisor" ∷ codes "quotient_cut_off_after_6_digits"
    ∷ codes "kind" ∷ codes "commands" ∷ codes "constituency_name" ∷ codes "group_name" ∷ []

-- the record of a list
abbrev pub seats_row : Distribution → Mark → ℕ → ℕ → List ℕ
seats_row x mark d g = record_text
    (decimal d ∷ decimal g ∷ decimal (votes_in x.totals d g) ∷ option_map_or decimal (list_voters x d g) []
    ∷ decimal (list_seats x d g) ∷ divisor_text (constituency_divisor x d)
    ∷ option_map_or divisor_text (group_divisor x g) [] ∷ option_map_or divisor_text (list_quotient x d g) []
    ∷ kind mark ∷ decimal mark.accepted ∷ name_of_constituency x.totals.canton d ∷ name_of_group x.totals.canton g ∷ [])

-- the record of a list, if it stands
abbrev pub standing_row : Distribution → Mark → ℕ → ℕ → List ℕ
standing_row x mark d g = if stands x.totals.canton d g then seats_row x mark d g else []

-- the records of a constituency, list by list
abbrev pub standing_rows_in : Distribution → Mark → ℕ → List ℕ
standing_rows_in x mark d = each_to (length x.totals.canton.groups) (standing_row x mark d)

-- the records of all lists, by constituency
abbrev pub standing_rows : Distribution → Mark → List ℕ
standing_rows x mark = each_to (length x.totals.canton.constituencies) (standing_rows_in x mark)

-- the whole text
abbrev pub seats_text : Distribution → Mark → List ℕ
seats_text x mark = record_text seats_columns ++ standing_rows x mark
