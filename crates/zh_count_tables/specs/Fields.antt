-- The tables for people that have a line for each group or constituency, and a line `total` below them: their columns, and the cells of
-- each line.
use Rattle.std.specs.Prelude.{ℕ, ◌-◌, Bool, false, List, [], ◌∷◌, codes, decimal, slice_index, slice_index_or}
use Rattle.zh_districts.specs.Canton.{persons_of}
use Rattle.zh_returns.specs.Tally.{Tally}
use Rattle.zh_totals.specs.Totals.{VoteTotals, all_votes, constituency_votes}
use Rattle.zh_totals.specs.Counting.{totals_of}
use Rattle.zh_quorum.specs.Quorum.{group_votes}
use Rattle.zh_sheet.specs.Distribution.{Distribution}
use Rattle.zh_sheet.specs.Readings.{takes_part}
use Rattle.zh_text.specs.Numbers.{millionths_text, or_dash}
use Rattle.zh_record_text.specs.Names.{name_of_constituency, name_of_group}
use Rattle.zh_sheet_text.specs.Lists.{constituency_divisor, group_divisor}
use Rattle.zh_count_tables.specs.Returned.{returned_of}
use Rattle.zh_count_tables.specs.SheetLines.{group_voters}
use Rattle.zh_count_tables.specs.Votes.{yes_or_no}
use Rattle.zh_count_tables.specs.declared.fields.Field.{Field}
use Rattle.zh_count_tables.specs.declared.fields.Field.TheVariants.{Name, Persons, Held, Due, Quorum, Votes, Voters, Divisor, Seats}
use Rattle.zh_count_tables.specs.declared.returned.Region.TheVariants as regions

-- the heading of a column; that of the names is empty
abbrev pub heading : Field → List ℕ
heading Name = []
heading Persons = codes "persons"
heading Held = codes "held"
heading Due = codes "due"
heading Quorum = codes "quorum"
heading Votes = codes "votes"
heading Voters = codes "voters"
heading Divisor = codes "divisor"
heading Seats = codes "seats"

-- the field of a column, from 0; past the end it is the name
abbrev pub field_at : List Field → ℕ → Field
field_at fields column = slice_index_or fields column Name

-- the fields of each table
abbrev pub group_fields : List Field
group_fields = Name ∷ Quorum ∷ Votes ∷ Voters ∷ Divisor ∷ Seats ∷ []

abbrev pub constituency_fields : List Field
constituency_fields = Name ∷ Persons ∷ Votes ∷ Divisor ∷ Seats ∷ []

abbrev pub vote_fields : List Field
vote_fields = Name ∷ Held ∷ Due ∷ Quorum ∷ Votes ∷ []

-- the cell of a group, and of a constituency, of a sheet; a dash if it has no voter sum or divisor; empty for a field of another table
abbrev pub field_of_group : Distribution → ℕ → Field → List ℕ
field_of_group x g Name = name_of_group x.totals.canton g
field_of_group x g Quorum = yes_or_no (takes_part x g)
field_of_group x g Votes = decimal (group_votes x.totals g)
field_of_group x g Voters = or_dash decimal (group_voters x g)
field_of_group x g Divisor = or_dash millionths_text (group_divisor x g)
field_of_group x g Seats = decimal (slice_index x.upper.seats (g - 1))
field_of_group x g field = []

abbrev pub field_of_constituency : Distribution → ℕ → Field → List ℕ
field_of_constituency x d Name = name_of_constituency x.totals.canton d
field_of_constituency x d Persons = decimal (persons_of x.totals.canton d)
field_of_constituency x d Votes = decimal (constituency_votes x.totals d)
field_of_constituency x d Divisor = millionths_text (constituency_divisor x d)
field_of_constituency x d Seats = decimal (slice_index x.seats.seats (d - 1))
field_of_constituency x d field = []

-- the cell of a group in the votes so far
abbrev pub field_of_votes : Tally → List Bool → ℕ → Field → List ℕ
field_of_votes tally taking g Name = name_of_group tally.canton g
field_of_votes tally taking g Held = decimal (returned_of tally regions.Canton g).held
field_of_votes tally taking g Due = decimal (returned_of tally regions.Canton g).due
field_of_votes tally taking g Quorum = yes_or_no (slice_index_or taking (g - 1) false)
field_of_votes tally taking g Votes = decimal (group_votes (totals_of tally) g)
field_of_votes tally taking g field = []

-- the cell in the line `total`: only the name, the votes and the seats are not empty
abbrev pub field_of_all : VoteTotals → Field → List ℕ
field_of_all totals Name = codes "total"
field_of_all totals Votes = decimal (all_votes totals)
field_of_all totals Seats = decimal totals.canton.house
field_of_all totals field = []
