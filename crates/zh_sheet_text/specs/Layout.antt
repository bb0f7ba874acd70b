-- How a sheet is laid out (docs/FORMATS.md, "The sheet"): its lines in their order, each a list of parts.
use Rattle.std.specs.Prelude.{ℕ, ◌^◌, ◌<◌, ◌≤◌, Bool, true, false, Option, Some, None, codes}
use Rattle.std.specs.Prelude.{List, [], ◌∷◌, ◌++◌, length, map, flat_map}
use Rattle.std.specs.List.{range_with_len}
use Rattle.zh_districts.specs.Canton.{Canton, persons_of, stands}
use Rattle.zh_sheet_text.specs.declared.line.Label.{Label}
use Rattle.zh_sheet_text.specs.declared.line.Label.TheVariants as labels
use Rattle.zh_sheet_text.specs.declared.line.SheetPart.{SheetPart}
use Rattle.zh_sheet_text.specs.declared.line.SheetPart.TheVariants.{Fixed, Number, Desk, Kind, Accepted, SeatsKey, UpperKey}
use Rattle.zh_sheet_text.specs.declared.line.SheetPart.TheVariants.{ConstituencySeats, ConstituencyVotes, ConstituencyDivisor}
use Rattle.zh_sheet_text.specs.declared.line.SheetPart.TheVariants.{ConstituencyName, TakesPart, GroupVoters, GroupSeats, GroupDivisor}
use Rattle.zh_sheet_text.specs.declared.line.SheetPart.TheVariants.{GroupName, ListVotes, ListVoters, ListSeats}

abbrev pub label_text : Label → List ℕ
label_text labels.Sheet = codes "sheet"
label_text labels.House = codes "house"
label_text labels.Seats = codes "seats"
label_text labels.Upper = codes "upper"
label_text labels.Key = codes "key"
label_text labels.Quorum = codes "quorum"
label_text labels.Canton = codes "canton"
label_text labels.Constituency = codes "constituency"
label_text labels.Persons = codes "persons"
label_text labels.Votes = codes "votes"
label_text labels.Divisor = codes "divisor"
label_text labels.Group = codes "group"
label_text labels.Voters = codes "voters"
label_text labels.List = codes "list"
label_text labels.End = codes "end"

-- the byte before the remaining parts: a space, 32, or the line feed, 10, if no part remains
abbrev pub mark_before : List SheetPart → ℕ
mark_before [] = 10
mark_before (part ∷ parts) = 32

-- a line: whether it is written, and its parts
pub record SheetLine : Type 0 where
  pub is_there : Bool
  pub parts : List SheetPart

-- the first line; the house; a divisor of seats; the canton-wide quorum in per mille, if there is one
abbrev pub head_line : SheetLine
head_line = record { is_there = true; parts = Desk ∷ Fixed labels.Sheet ∷ Kind ∷ Accepted ∷ [] }

abbrev pub house_line : Canton → SheetLine
house_line canton = record { is_there = true; parts = Fixed labels.House ∷ Number canton.house ∷ [] }

abbrev pub key_line : Label → SheetPart → SheetLine
key_line whose key = record { is_there = true; parts = Fixed whose ∷ Fixed labels.Key ∷ key ∷ [] }

abbrev pub quorum_line : Option ℕ → SheetLine
quorum_line None = record { is_there = false; parts = [] }
quorum_line (Some q) = record { is_there = true; parts = Fixed labels.Quorum ∷ Fixed labels.Canton ∷ Number q ∷ [] }

-- a constituency: its persons, seats, votes, divisor and name
abbrev pub constituency_line : Canton → ℕ → SheetLine
constituency_line canton d = record {
  is_there = true;
  parts = Fixed labels.Constituency ∷ Number d ∷ Fixed labels.Persons ∷ Number (persons_of canton d)
      ∷ Fixed labels.Seats ∷ ConstituencySeats d ∷ Fixed labels.Votes ∷ ConstituencyVotes d
      ∷ Fixed labels.Divisor ∷ ConstituencyDivisor d ∷ ConstituencyName d ∷ [];
}

-- a group: whether it takes part, its voter sum, seats, divisor and name
abbrev pub group_line : ℕ → SheetLine
group_line g = record {
  is_there = true;
  parts = Fixed labels.Group ∷ Number g ∷ Fixed labels.Quorum ∷ TakesPart g
      ∷ Fixed labels.Voters ∷ GroupVoters g ∷ Fixed labels.Seats ∷ GroupSeats g
      ∷ Fixed labels.Divisor ∷ GroupDivisor g ∷ GroupName g ∷ [];
}

-- a list: its votes, voter number and seats
abbrev pub list_line : Canton → ℕ → ℕ → SheetLine
list_line canton d g = record {
  is_there = stands canton d g;
  parts = Fixed labels.List ∷ Number d ∷ Number g ∷ Fixed labels.Votes ∷ ListVotes d g
      ∷ Fixed labels.Voters ∷ ListVoters d g ∷ Fixed labels.Seats ∷ ListSeats d g ∷ [];
}

abbrev pub end_line : SheetLine
end_line = record { is_there = true; parts = Fixed labels.End ∷ [] }

-- the constituencies, the groups, the lists by constituency and group, and the end
abbrev pub lines_below : Canton → List SheetLine
lines_below canton =
    map (constituency_line canton) (range_with_len 1 (length canton.constituencies))
    ++ (map group_line (range_with_len 1 (length canton.groups))
    ++ (flat_map (λ d. map (list_line canton d) (range_with_len 1 (length canton.groups))) (range_with_len 1 (length canton.constituencies))
    ++ end_line ∷ []))

-- the lines of a sheet
abbrev pub sheet_lines : Canton → List SheetLine
sheet_lines canton =
    head_line ∷ house_line canton ∷ key_line labels.Seats SeatsKey ∷ key_line labels.Upper UpperKey
    ∷ quorum_line canton.canton_quorum ∷ lines_below canton

-- a number from 1 to `most`
pub record IsUpTo (most number : ℕ) : Type 0 where
  pub from_one : 1 ≤ number
  pub there : number ≤ most

-- a part is about existing constituencies and groups, and its number is below 2 ^ 32
abbrev pub IsPartOf : Canton → SheetPart → Type 0
IsPartOf canton (Number n) = n < 2 ^ 32
IsPartOf canton (ConstituencySeats d) = IsUpTo (length canton.constituencies) d
IsPartOf canton (ConstituencyVotes d) = IsUpTo (length canton.constituencies) d
IsPartOf canton (ConstituencyDivisor d) = IsUpTo (length canton.constituencies) d
IsPartOf canton (ConstituencyName d) = IsUpTo (length canton.constituencies) d
IsPartOf canton (TakesPart g) = IsUpTo (length canton.groups) g
IsPartOf canton (GroupVoters g) = IsUpTo (length canton.groups) g
IsPartOf canton (GroupSeats g) = IsUpTo (length canton.groups) g
IsPartOf canton (GroupDivisor g) = IsUpTo (length canton.groups) g
IsPartOf canton (GroupName g) = IsUpTo (length canton.groups) g
IsPartOf canton (ListVotes d g) = IsUpTo (length canton.constituencies) d × IsUpTo (length canton.groups) g
IsPartOf canton (ListVoters d g) = IsUpTo (length canton.constituencies) d × IsUpTo (length canton.groups) g
IsPartOf canton (ListSeats d g) = IsUpTo (length canton.constituencies) d × IsUpTo (length canton.groups) g
IsPartOf canton part = Unit {0}
