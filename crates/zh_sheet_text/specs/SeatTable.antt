-- The seats as a table for people: a line for each constituency and a column for each group, with totals.
use Rattle.std.specs.Prelude.{ℕ, ◌+◌, ◌-◌, List, [], ◌∷◌, ◌++◌, length, if◌then◌else◌, codes, decimal, slice_index}
use Rattle.zh_districts.specs.Canton.{stands}
use Rattle.zh_sheet.specs.Distribution.{Distribution}
use Rattle.zh_sheet.specs.Readings.{list_seats}
use Rattle.zh_record_text.specs.Names.{name_of_constituency, name_of_group}
use Rattle.zh_sheet_text.specs.Lists.{finality}
use Rattle.zh_sheet_text.specs.Table.{Grid, grid_text, table_place}
use Rattle.zh_sheet_text.specs.declared.table.TablePlace.{TablePlace}
use Rattle.zh_sheet_text.specs.declared.table.TablePlace.TheVariants.{Head, At, Total}
use Rattle.zh_sheet_text.specs.declared.mark.Mark.{Mark}
use Rattle.zh_sheet_text.specs.declared.mark.Source.{Source}
use Rattle.zh_sheet_text.specs.declared.mark.Source.TheVariants.{Count, Sheet}

-- names to the left and above; the seats of each list, constituency and group, and of the house; a dash for a list that does not stand
abbrev pub seat_cell : Distribution → TablePlace → TablePlace → List ℕ
seat_cell x Head Head = []
seat_cell x Head (At g) = name_of_group x.totals.canton g
seat_cell x Head Total = codes "total"
seat_cell x (At d) Head = name_of_constituency x.totals.canton d
seat_cell x (At d) (At g) = if stands x.totals.canton d g then decimal (list_seats x d g) else codes "-"
seat_cell x (At d) Total = decimal (slice_index x.seats.seats (d - 1))
seat_cell x Total Head = codes "total"
seat_cell x Total (At g) = decimal (slice_index x.upper.seats (g - 1))
seat_cell x Total Total = decimal x.totals.canton.house

abbrev pub seat_grid : Distribution → Grid
seat_grid x = record {
  lines = length x.totals.canton.constituencies + 1;
  columns = length x.totals.canton.groups + 1;
  cell = λ line column.
      seat_cell x (table_place (length x.totals.canton.constituencies) line) (table_place (length x.totals.canton.groups) column);
}

-- what is added after each statement of a published sheet
abbrev pub whose : Source → List ℕ
whose Count = []
whose Sheet = codes " (as the sheet says)"

-- the title: how the seats are marked
abbrev pub title : Mark → List ℕ
title mark = finality mark ++ whose mark.source ++ codes ", " ++ decimal mark.accepted ++ codes " commands" ++ whose mark.source ++ 10 ∷ []

-- the whole table
abbrev pub table_text : Distribution → Mark → List ℕ
table_text x mark = title mark ++ grid_text (seat_grid x)
