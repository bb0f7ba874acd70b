-- The text of a sheet (docs/FORMATS.md, "The sheet"): the text of each part of a line, of each line, and of the whole.
use Rattle.std.specs.Prelude.{ℕ, ◌-◌, Bool, if◌then◌else◌, codes, decimal}
use Rattle.std.specs.Prelude.{List, [], ◌∷◌, ◌++◌, slice_index, flat_map}
use Rattle.std.specs.Option.{option_map_or}
use Rattle.zh_totals.specs.Totals.{constituency_votes, votes_in}
use Rattle.zh_upper.specs.VoterNumbers.{voter_number}
use Rattle.zh_sheet.specs.Distribution.{Distribution}
use Rattle.zh_sheet.specs.Readings.{column_of, list_seats, takes_part}
use Rattle.zh_text.specs.Numbers.{millionths_text}
use Rattle.zh_record_text.specs.Names.{name_of_constituency, name_of_group}
use Rattle.zh_sheet_text.specs.Layout.{SheetLine, label_text, mark_before, sheet_lines}
use Rattle.zh_sheet_text.specs.declared.line.Head.{Head}
use Rattle.zh_sheet_text.specs.declared.line.SheetPart.{SheetPart}
use Rattle.zh_sheet_text.specs.declared.line.SheetPart.TheVariants.{Fixed, Number, Desk, Kind, Accepted, SeatsKey, UpperKey}
use Rattle.zh_sheet_text.specs.declared.line.SheetPart.TheVariants.{ConstituencySeats, ConstituencyVotes, ConstituencyDivisor}
use Rattle.zh_sheet_text.specs.declared.line.SheetPart.TheVariants.{ConstituencyName, TakesPart, GroupVoters, GroupSeats, GroupDivisor}
use Rattle.zh_sheet_text.specs.declared.line.SheetPart.TheVariants.{GroupName, ListVotes, ListVoters, ListSeats}

-- a number of millionths, with six digits after the dot
abbrev pub divisor_text : ℕ → List ℕ
divisor_text millionths = millionths_text millionths

-- the text of a part: a key is a fraction that is not reduced; a dash replaces the voter sum and the voter numbers of a group that does
-- not take part, and the divisor of a group without seats
abbrev pub part_text : Distribution → Head → SheetPart → List ℕ
part_text x head (Fixed label) = label_text label
part_text x head (Number n) = decimal n
part_text x head Desk = decimal head.desk
part_text x head Kind = if head.is_final then codes "final" else codes "provisional"
part_text x head Accepted = decimal head.accepted
part_text x head SeatsKey = decimal x.seats.num ++ (codes "/" ++ decimal x.seats.den)
part_text x head UpperKey = decimal x.upper.num ++ (codes "/" ++ decimal x.upper.den)
part_text x head (ConstituencySeats d) = decimal (slice_index x.seats.seats (d - 1))
part_text x head (ConstituencyVotes d) = decimal (constituency_votes x.totals d)
part_text x head (ConstituencyDivisor d) = divisor_text (slice_index x.lower.divisors.of_rows (d - 1))
part_text x head (ConstituencyName d) = name_of_constituency x.totals.canton d
part_text x head (TakesPart g) = if takes_part x g then codes "yes" else codes "no"
part_text x head (GroupVoters g) = if takes_part x g then decimal (slice_index x.voters (g - 1)) else codes "-"
part_text x head (GroupSeats g) = decimal (slice_index x.upper.seats (g - 1))
part_text x head (GroupDivisor g) =
    option_map_or (λ k. divisor_text (slice_index x.lower.divisors.of_columns k)) (column_of x g) (codes "-")
part_text x head (GroupName g) = name_of_group x.totals.canton g
part_text x head (ListVotes d g) = decimal (votes_in x.totals d g)
part_text x head (ListVoters d g) =
    if takes_part x g then decimal (voter_number (votes_in x.totals d g) (slice_index x.seats.seats (d - 1))) else codes "-"
part_text x head (ListSeats d g) = decimal (list_seats x d g)

-- the parts of a line, each with the byte after it
abbrev pub joined_parts : (SheetPart → List ℕ) → List SheetPart → List ℕ
joined_parts text [] = []
joined_parts text (part ∷ parts) = text part ++ mark_before parts ∷ joined_parts text parts

-- a line, if it is written
abbrev pub line_text : (SheetPart → List ℕ) → SheetLine → List ℕ
line_text text line = if line.is_there then joined_parts text line.parts else []

-- the whole text, for a desk, final or provisional, after this number of accepted commands
abbrev pub sheet_text : Distribution → ℕ → Bool → ℕ → List ℕ
sheet_text x desk is_final accepted =
    flat_map (line_text (part_text x (record { desk = desk; is_final = is_final; accepted = accepted }))) (sheet_lines x.totals.canton)
