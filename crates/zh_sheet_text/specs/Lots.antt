-- What the lot decides, as text; 10 is LF, 32 is a space. The text of a line begins with the LF that ends the line before it.
use Rattle.std.specs.Prelude.{ℕ, ◌-◌, ◌&&◌, ◌||◌, Bool, false, nat_le, nat_lt, if◌then◌else◌, List, [], ◌∷◌, ◌++◌, codes, decimal}
use Rattle.std.specs.Prelude.{length, slice_index, slice_index_or}
use Rattle.zh_districts.specs.Canton.{Canton}
use Rattle.zh_matrices.specs.Question.{cell}
use Rattle.zh_upper.specs.declared.ranges.SeatRanges.{SeatRanges}
use Rattle.zh_sheet.specs.ListRanges.{RangesOfLists}
use Rattle.zh_sheet.specs.declared.lot.Lot.{Lot}
use Rattle.zh_sheet.specs.declared.lot.Lot.TheVariants.{Constituencies, Groups, Lists}
use Rattle.zh_text.specs.Each.{each_to}
use Rattle.zh_record_text.specs.Names.{name_of_constituency, name_of_group}
use Rattle.zh_sheet_text.specs.declared.lots.ListRange.{ListRange}
use Rattle.zh_sheet_text.specs.declared.lots.Listed.{Listed}
use Rattle.zh_sheet_text.specs.declared.lots.Listed.TheVariants.{Differing, Same}

-- the name of this constituency or group, or an empty text if the set-up does not have it
abbrev pub constituency_behind : Canton → ℕ → List ℕ
constituency_behind canton d = if nat_le 1 d && nat_le d (length canton.constituencies) then name_of_constituency canton d else []

abbrev pub group_behind : Canton → ℕ → List ℕ
group_behind canton g = if nat_le 1 g && nat_le g (length canton.groups) then name_of_group canton g else []

-- a space and the names of a list, which follow its numbers
abbrev pub list_behind : Canton → ListRange → List ℕ
list_behind canton x = 32 ∷ constituency_behind canton x.constituency ++ codes ", " ++ group_behind canton x.group

-- the line of a constituency, if it is marked: its number and its name
abbrev pub tied_constituency_line : Canton → List Bool → ℕ → List ℕ
tied_constituency_line canton marks d =
    if slice_index_or marks (d - 1) false then 10 ∷ decimal d ++ 32 ∷ constituency_behind canton d else []

-- the line of a group, if its seats differ: its number, the fewest and the most seats, and its name
abbrev pub range_line : Canton → ℕ → ℕ → ℕ → List ℕ
range_line canton g least most =
    if nat_lt least most then 10 ∷ decimal g ++ 32 ∷ decimal least ++ 32 ∷ decimal most ++ 32 ∷ group_behind canton g else []

abbrev pub tied_group_line : Canton → SeatRanges → ℕ → List ℕ
tied_group_line canton x g = range_line canton g (slice_index x.least.items (g - 1)) (slice_index x.most.items (g - 1))

-- the line of a list, if it is selected. If its seats differ: constituency, group, fewest and most seats. If they are the same in each
-- distribution, and at least one: constituency, group, seats. Its names follow.
abbrev pub tied_list_line : Canton → Listed → ListRange → List ℕ
tied_list_line canton Differing x =
    if nat_lt x.least x.most
    then 10 ∷ decimal x.constituency ++ 32 ∷ decimal x.group ++ 32 ∷ decimal x.least ++ 32 ∷ decimal x.most ++ list_behind canton x
    else []
tied_list_line canton Same x =
    if nat_lt x.least x.most || nat_le x.least 0
    then []
    else 10 ∷ decimal x.constituency ++ 32 ∷ decimal x.group ++ 32 ∷ decimal x.least ++ list_behind canton x

-- the list of constituency d and of the group at a place in `groups`, counted from 1
abbrev pub range_of : RangesOfLists → ℕ → ℕ → ListRange
range_of x d place = record {
  constituency = d;
  group = slice_index x.groups (place - 1);
  least = cell (length x.groups) x.least (d - 1) (place - 1);
  most = cell (length x.groups) x.most (d - 1) (place - 1);
}

abbrev pub lines_in : Canton → Listed → RangesOfLists → ℕ → List ℕ
lines_in canton listed x d = each_to (length x.groups) (λ place. tied_list_line canton listed (range_of x d place))

abbrev pub list_lines : Canton → Listed → RangesOfLists → List ℕ
list_lines canton listed x = each_to x.constituencies (lines_in canton listed x)

-- what the lot decides
abbrev pub lot_text : Canton → Lot → List ℕ
lot_text canton (Constituencies marks) =
    codes "the lot decides between distributions that differ in these constituencies"
    ++ each_to (length canton.constituencies) (tied_constituency_line canton marks.items)
lot_text canton (Groups x) =
    codes "the lot decides between distributions that differ in these groups"
    ++ each_to (length canton.groups) (tied_group_line canton x)
lot_text canton (Lists x) =
    codes "the lot decides between distributions that differ in these lists" ++ list_lines canton Differing x
    ++ codes "\nall other lists have the same seats in each" ++ list_lines canton Same x
