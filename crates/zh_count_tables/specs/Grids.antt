-- The cells of tables for people (docs/FORMATS.md, "The votes so far" and "The seats").
use Rattle.std.specs.Prelude.{◌≡◌, ℕ, ◌+◌, Bool, List, [], ◌∷◌, ◌++◌, length, if◌then◌else◌, codes, decimal}
use Rattle.zh_districts.specs.Canton.{stands}
use Rattle.zh_returns.specs.Tally.{Tally}
use Rattle.zh_totals.specs.Counting.{counted, totals_of}
use Rattle.zh_totals.specs.Totals.{all_votes, constituency_votes}
use Rattle.zh_quorum.specs.Quorum.{AreParticipating, group_votes}
use Rattle.zh_sheet.specs.Distribution.{Distribution}
use Rattle.zh_record_text.specs.Names.{name_of_constituency, name_of_group}
use Rattle.zh_sheet_text.specs.SeatTable.{title}
use Rattle.zh_sheet_text.specs.Table.{Grid, grid_text, table_place}
use Rattle.zh_sheet_text.specs.declared.mark.Mark.{Mark}
use Rattle.zh_sheet_text.specs.declared.table.TablePlace.{TablePlace}
use Rattle.zh_sheet_text.specs.declared.table.TablePlace.TheVariants.{Head, At, Total}
use Rattle.zh_count_tables.specs.Fields.{constituency_fields, field_at, field_of_all, field_of_constituency, field_of_group, field_of_votes}
use Rattle.zh_count_tables.specs.Fields.{group_fields, heading, vote_fields}
use Rattle.zh_count_tables.specs.declared.fields.Field.{Field}
use Rattle.zh_count_tables.specs.declared.votes.VotesOf.{VotesOf}
use Rattle.zh_count_tables.specs.declared.votes.VotesOf.TheVariants.{Lists, Groups}

-- the groups of a sheet: a line for each, and a line `total` below them
abbrev pub group_cell : Distribution → TablePlace → Field → List ℕ
group_cell x Head field = heading field
group_cell x (At g) field = field_of_group x g field
group_cell x Total field = field_of_all x.totals field

abbrev pub group_grid : Distribution → Grid
group_grid x = record {
  lines = length x.totals.canton.groups + 1;
  columns = 5;
  cell = λ line column. group_cell x (table_place (length x.totals.canton.groups) line) (field_at group_fields column);
}

-- the constituencies of a sheet: a line for each, and a line `total` below them
abbrev pub constituency_cell : Distribution → TablePlace → Field → List ℕ
constituency_cell x Head field = heading field
constituency_cell x (At d) field = field_of_constituency x d field
constituency_cell x Total field = field_of_all x.totals field

abbrev pub constituency_grid : Distribution → Grid
constituency_grid x = record {
  lines = length x.totals.canton.constituencies + 1;
  columns = 4;
  cell = λ line column.
      constituency_cell x (table_place (length x.totals.canton.constituencies) line) (field_at constituency_fields column);
}

-- the votes so far of the groups
abbrev pub vote_cell : Tally → List Bool → TablePlace → Field → List ℕ
vote_cell tally taking Head field = heading field
vote_cell tally taking (At g) field = field_of_votes tally taking g field
vote_cell tally taking Total field = field_of_all (totals_of tally) field

abbrev pub vote_grid : Tally → List Bool → Grid
vote_grid tally taking = record {
  lines = length tally.canton.groups + 1;
  columns = 4;
  cell = λ line column. vote_cell tally taking (table_place (length tally.canton.groups) line) (field_at vote_fields column);
}

-- the votes so far of the lists: constituencies by groups, with totals, and a dash for a list that does not stand
abbrev pub list_cell : Tally → TablePlace → TablePlace → List ℕ
list_cell tally Head Head = []
list_cell tally Head (At g) = name_of_group tally.canton g
list_cell tally Head Total = codes "total"
list_cell tally (At d) Head = name_of_constituency tally.canton d
list_cell tally (At d) (At g) = if stands tally.canton d g then decimal (counted tally d g) else codes "-"
list_cell tally (At d) Total = decimal (constituency_votes (totals_of tally) d)
list_cell tally Total Head = codes "total"
list_cell tally Total (At g) = decimal (group_votes (totals_of tally) g)
list_cell tally Total Total = decimal (all_votes (totals_of tally))

abbrev pub list_grid : Tally → Grid
list_grid tally = record {
  lines = length tally.canton.constituencies + 1;
  columns = length tally.canton.groups + 1;
  cell = λ line column.
      list_cell tally (table_place (length tally.canton.constituencies) line) (table_place (length tally.canton.groups) column);
}

-- the tables of a sheet, below their title
abbrev pub group_table_text : Distribution → Mark → List ℕ
group_table_text x mark = title mark ++ grid_text (group_grid x)

abbrev pub constituency_table_text : Distribution → Mark → List ℕ
constituency_table_text x mark = title mark ++ grid_text (constituency_grid x)

-- the line above the votes so far
abbrev pub votes_title : ℕ → List ℕ
votes_title accepted = codes "votes so far, " ++ decimal accepted ++ codes " commands\n"

-- the table of the votes so far; a group would take part if one of its lists reaches the quorum of its constituency, or if the group
-- reaches that of the whole canton, if there is one
abbrev pub IsVotesGrid : Tally → VotesOf → Grid → Type 0
IsVotesGrid tally Lists grid = grid ≡ list_grid tally
IsVotesGrid tally Groups grid = (taking : List Bool) × AreParticipating (totals_of tally) taking × (grid ≡ vote_grid tally taking)

abbrev pub IsVotesTable : Tally → VotesOf → List ℕ → Type 0
IsVotesTable tally of text = (grid : Grid) × IsVotesGrid tally of grid × (text ≡ votes_title tally.accepted ++ grid_text grid)
