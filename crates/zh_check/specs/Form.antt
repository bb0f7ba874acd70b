-- The form of a sheet: what its lines say by the set-up alone. The words that the set-up does not give are taken from the text if they are
-- possible there; dots replace the others.
use Rattle.std.specs.Prelude.{◌≡◌, ℕ, ◌==◌, ◌&&◌, ◌||◌, not, Bool, false, Option, Some, None, MatchOption, unwrap_or, if◌then◌else◌, codes}
use Rattle.std.specs.Prelude.{List, [], ◌∷◌, ◌++◌, decimal, filter, length, nat_le}
use Rattle.std.specs.Char.{is_ascii_digit}
use Rattle.std.specs.List.{list_all}
use Rattle.std.specs.Str.{bytes_eq}
use Rattle.zh_districts.specs.Canton.{Canton}
use Rattle.zh_record_text.specs.Names.{name_of_constituency, name_of_group}
use Rattle.zh_sheet_text.specs.Layout.{SheetLine, label_text, mark_before, sheet_lines}
use Rattle.zh_sheet_text.specs.SheetText.{divisor_text}
use Rattle.zh_sheet_text.specs.declared.line.SheetPart.{SheetPart}
use Rattle.zh_sheet_text.specs.declared.line.SheetPart.TheVariants.{Fixed, Number, Desk, Kind, Accepted, SeatsKey, UpperKey}
use Rattle.zh_sheet_text.specs.declared.line.SheetPart.TheVariants.{ConstituencySeats, ConstituencyVotes, ConstituencyDivisor}
use Rattle.zh_sheet_text.specs.declared.line.SheetPart.TheVariants.{ConstituencyName, TakesPart, GroupVoters, GroupSeats, GroupDivisor}
use Rattle.zh_sheet_text.specs.declared.line.SheetPart.TheVariants.{GroupName, ListVotes, ListVoters, ListSeats}
use Rattle.zh_check.specs.Differences.{DiffersAt}
use Rattle.zh_check.specs.Lines.{after_if, after_word, first_line, leading_word, number_of_word}
use Rattle.zh_check.specs.declared.checked.WrongLine.{WrongLine}

-- the number in a word is written as sheets write it: in decimal, without leading zeros
abbrev pub is_number : List ℕ → Bool
is_number word = bytes_eq word (decimal (number_of_word word))

-- a number, written as sheets write it, from low to high
abbrev pub is_number_from : ℕ → ℕ → List ℕ → Bool
is_number_from low high word = is_number word && (nat_le low (number_of_word word) && nat_le (number_of_word word) high)

-- the word is a divisor as sheets write it: with six digits after the point
abbrev pub is_divisor : List ℕ → Bool
is_divisor word = bytes_eq word (divisor_text (number_of_word word))

-- the word is not empty, and each byte of it is a digit or `mark`; 47 is a slash, 48 the digit 0
abbrev pub is_digit_or : ℕ → ℕ → Bool
is_digit_or mark byte = is_ascii_digit byte || byte == mark

abbrev pub is_made_of_digits : ℕ → List ℕ → Bool
is_made_of_digits mark word = not (length word == 0) && list_all (is_digit_or mark) word

-- whether a word is possible at a part that the set-up does not give; if its number is read, the word has to be what a sheet writes for
-- that number
abbrev pub fits : SheetPart → List ℕ → Bool
fits Desk word = is_number_from 1 8 word
fits Kind word = bytes_eq word (codes "provisional") || bytes_eq word (codes "final")
fits Accepted word = is_number word
fits SeatsKey word = is_made_of_digits 47 word
fits UpperKey word = is_made_of_digits 47 word
fits (ConstituencySeats d) word = is_number_from 0 400 word
fits (ConstituencyVotes d) word = is_number word
fits (ConstituencyDivisor d) word = is_divisor word
fits (TakesPart g) word = bytes_eq word (codes "yes") || bytes_eq word (codes "no")
fits (GroupVoters g) word = bytes_eq word (codes "-") || is_made_of_digits 48 word
fits (GroupSeats g) word = is_number_from 0 400 word
fits (GroupDivisor g) word = bytes_eq word (codes "-") || is_divisor word
fits (ListVotes d g) word = is_number word
fits (ListVoters d g) word = bytes_eq word (codes "-") || is_made_of_digits 48 word
fits (ListSeats d g) word = is_number_from 0 400 word
fits part word = false

-- two dots, or one if the word is two dots; so the result always differs from the word
abbrev pub dots_for : List ℕ → List ℕ
dots_for word = if bytes_eq word (codes "..") then codes "." else codes ".."

-- the word, if it is possible at this part, otherwise dots
abbrev pub filled : SheetPart → List ℕ → List ℕ
filled part word = if fits part word then word else dots_for word

-- what the set-up alone determines at a part
abbrev pub known_text : Canton → SheetPart → Option (List ℕ)
known_text canton (Fixed label) = Some (label_text label)
known_text canton (Number n) = Some (decimal n)
known_text canton (ConstituencyName d) = Some (name_of_constituency canton d)
known_text canton (GroupName g) = Some (name_of_group canton g)
known_text canton part = None

abbrev pub part_form : Canton → SheetPart → List ℕ → List ℕ
part_form canton part word = unwrap_or (known_text canton part) (filled part word)

-- the form of a line with these parts, with the words of the line found in its place
abbrev pub parts_form : Canton → List SheetPart → List ℕ → List ℕ
parts_form canton [] line = []
parts_form canton (part ∷ parts) line =
    part_form canton part (leading_word line) ++ mark_before parts ∷ parts_form canton parts (after_word line)

-- the form of a line, if it is written
abbrev pub line_form : Canton → SheetLine → List ℕ → List ℕ
line_form canton line text = if line.is_there then parts_form canton line.parts (first_line text) else []

-- the forms of lines, one after another
abbrev pub in_forms : Canton → List SheetLine → List ℕ → List ℕ
in_forms canton [] text = []
in_forms canton (line ∷ lines) text = line_form canton line text ++ in_forms canton lines (after_if line.is_there text)

-- the form of a sheet with the words of a text; with an empty text it has dots for each word that the set-up does not give
abbrev pub formed : Canton → List ℕ → List ℕ
formed canton text = in_forms canton (sheet_lines canton) text

-- the text is in the form of a sheet
abbrev pub IsFormed : Canton → List ℕ → Type 0
IsFormed canton text = text ≡ formed canton text

-- the text without CRs, byte 13; no name in a set-up contains one
abbrev pub without_crs : List ℕ → List ℕ
without_crs text = filter (λ b. not (b == 13)) text

-- what the lines should be: those of the text without CRs if that is in the form of a sheet, otherwise those of the form with dots
abbrev pub shown_form : Canton → List ℕ → List ℕ
shown_form canton text = if bytes_eq (without_crs text) (formed canton (without_crs text)) then without_crs text else formed canton []

-- the text is not in the form of a sheet: the first line that is not of its kind, and what it should be
pub record IsOffForm (canton : Canton) (text : List ℕ) (wrong : WrongLine) : Type 0 where
  pub other : ¬ IsFormed canton text
  pub line : DiffersAt text (formed canton text) (shown_form canton text) wrong

abbrev pub FindsOffForm : Canton → List ℕ → Option WrongLine → Type 0
FindsOffForm canton text found = MatchOption found (IsFormed canton text) (IsOffForm canton text)
