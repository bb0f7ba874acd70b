-- The values that only the text of a sheet has: those of its first line, and the votes, divisors and seats of the lists.
use Rattle.std.specs.Prelude.{◌≡◌, ℕ, Bool, false, true, if◌then◌else◌, nat_lt}
use Rattle.std.specs.Prelude.{List, [], ◌∷◌, ◌++◌, codes, length, map, flat_map, filter, min, slice_index}
use Rattle.std.specs.List.{range_with_len}
use Rattle.std.specs.Option.{option_map_or}
use Rattle.std.specs.Str.{bytes_eq}
use Rattle.zh_districts.specs.Canton.{Canton, stands}
use Rattle.zh_matrices.specs.SeatMatrix.{SeatMatrix}
use Rattle.zh_sheet.specs.Distribution.{seated_groups}
use Rattle.zh_sheet.specs.Given.{given_lists}
use Rattle.zh_sheet_text.specs.Layout.{SheetLine, sheet_lines}
use Rattle.zh_sheet_text.specs.declared.line.Head.{Head}
use Rattle.zh_sheet_text.specs.declared.line.SheetPart.{SheetPart}
use Rattle.zh_sheet_text.specs.declared.line.SheetPart.TheVariants.{Desk, Kind, Accepted, ConstituencyDivisor, GroupDivisor}
use Rattle.zh_sheet_text.specs.declared.line.SheetPart.TheVariants.{ListVotes, ListSeats}
use Rattle.zh_totals.specs.Totals.{VoteTotals, place_in}
use Rattle.zh_check.specs.Lines.{after_if, after_word, leading_word, line_if, number_of_word}
use Rattle.zh_check.specs.declared.recomputed.Values.{Values}

-- the words of a line at the parts that pass a test
abbrev pub words_in : (SheetPart → Bool) → List SheetPart → List ℕ → List (List ℕ)
words_in test [] line = []
words_in test (part ∷ parts) line = (if test part then leading_word line ∷ [] else []) ++ words_in test parts (after_word line)

-- the words of a text at these parts, line by line; those of a line that is not written are empty
abbrev pub words_at : (SheetPart → Bool) → List SheetLine → List ℕ → List (List ℕ)
words_at test [] text = []
words_at test (line ∷ lines) text =
    words_in test line.parts (line_if line.is_there text) ++ words_at test lines (after_if line.is_there text)

-- whether two parts are of the same kind, one of the seven that are read
abbrev pub is_like : SheetPart → SheetPart → Bool
is_like Desk Desk = true
is_like Kind Kind = true
is_like Accepted Accepted = true
is_like (ConstituencyDivisor d) (ConstituencyDivisor e) = true
is_like (GroupDivisor g) (GroupDivisor h) = true
is_like (ListVotes d g) (ListVotes e h) = true
is_like (ListSeats d g) (ListSeats e h) = true
is_like part other = false

-- the last of some values, or `before` if there are none
abbrev pub latest : {A : Type 0} → A → List A → A
latest before [] = before
latest before (value ∷ values) = latest value values

-- the number of seats in a word, at most 400
abbrev pub seats_of_word : List ℕ → ℕ
seats_of_word word = min (number_of_word word) 400

-- the values of the first line after these words, each at its part; a desk is read as at most 255
abbrev pub head_with : Head → ((SheetPart → Bool) → List (List ℕ)) → Head
head_with head words = record {
  desk = latest head.desk (map (λ word. min (number_of_word word) 255) (words (is_like Desk)));
  is_final = latest head.is_final (map (λ word. bytes_eq word (codes "final")) (words (is_like Kind)));
  accepted = latest head.accepted (map number_of_word (words (is_like Accepted)));
}

-- the values of the first line of a text
abbrev pub head_read : Canton → List ℕ → Head
head_read canton text =
    head_with (record { desk = 0; is_final = false; accepted = 0 }) (λ test. words_at test (sheet_lines canton) text)

-- the divisors in a text, in millionths; a dash has no digits, so it gives 0
abbrev pub row_divisors_read : Canton → List ℕ → List ℕ
row_divisors_read canton text = map number_of_word (words_at (is_like (ConstituencyDivisor 0)) (sheet_lines canton) text)

abbrev pub group_divisors_read : Canton → List ℕ → List ℕ
group_divisors_read canton text = map number_of_word (words_at (is_like (GroupDivisor 0)) (sheet_lines canton) text)

-- the votes and the seats of the lists, by constituency and group; 0 for a list that does not stand
abbrev pub votes_read : Canton → List ℕ → List ℕ
votes_read canton text = map number_of_word (words_at (is_like (ListVotes 0 0)) (sheet_lines canton) text)

abbrev pub seats_read : Canton → List ℕ → List ℕ
seats_read canton text = map seats_of_word (words_at (is_like (ListSeats 0 0)) (sheet_lines canton) text)

-- what some words, each at its part, add to the values that were read
pub record AddsWords (words : (SheetPart → Bool) → List (List ℕ)) (old new : Values) : Type 0 where
  pub head : new.head ≡ head_with old.head words
  pub rows : new.row_divisors.items ≡ old.row_divisors.items ++ map number_of_word (words (is_like (ConstituencyDivisor 0)))
  pub groups : new.group_divisors.items ≡ old.group_divisors.items ++ map number_of_word (words (is_like (GroupDivisor 0)))
  pub votes : new.votes.items ≡ old.votes.items ++ map number_of_word (words (is_like (ListVotes 0 0)))
  pub seats : new.seats.items ≡ old.seats.items ++ map seats_of_word (words (is_like (ListSeats 0 0)))

-- all values of a text
pub record IsRead (canton : Canton) (text : List ℕ) (read : Values) : Type 0 where
  pub head : read.head ≡ head_read canton text
  pub rows : read.row_divisors.items ≡ row_divisors_read canton text
  pub groups : read.group_divisors.items ≡ group_divisors_read canton text
  pub votes : read.votes.items ≡ votes_read canton text
  pub seats : read.seats.items ≡ seats_read canton text

-- the number of lines between the first line and the constituencies: the house, two divisors of seats, and a canton-wide quorum if there
-- is one
abbrev pub lines_above : Canton → ℕ
lines_above canton = option_map_or (λ _. 4) canton.canton_quorum 3

-- which lists stand, by constituency and group
abbrev pub standing : Canton → List Bool
standing canton =
    flat_map (λ d. map (stands canton d) (range_with_len 1 (length canton.groups))) (range_with_len 1 (length canton.constituencies))

-- the seats of the lists of groups with a divisor, by constituency
abbrev pub seats_in_columns : Canton → List ℕ → List ℕ → List ℕ
seats_in_columns canton divisors seats =
    flat_map (λ d. map (λ g. slice_index seats (place_in canton d g)) (seated_groups divisors))
    (range_with_len 1 (length canton.constituencies))

-- the divisors that are not 0
abbrev pub column_divisors : List ℕ → List ℕ
column_divisors divisors = filter (λ n. nat_lt 0 n) divisors

-- the seats and the divisors of the lists, as a lower apportionment
abbrev pub lists_read : Canton → List ℕ → SeatMatrix
lists_read canton text =
    given_lists (seats_in_columns canton (group_divisors_read canton text) (seats_read canton text)) (row_divisors_read canton text)
    (column_divisors (group_divisors_read canton text))

-- the votes as totals
abbrev pub totals_read : Canton → List ℕ → VoteTotals
totals_read canton text = record { canton = canton; votes = votes_read canton text }
