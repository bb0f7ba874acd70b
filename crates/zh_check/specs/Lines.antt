-- The lines of a text and the words of a line: 10 ends a line, 32 separates words.
use Rattle.std.specs.Prelude.{ℕ, zero, suc, ◌+◌, ◌-◌, ◌*◌, ◌^◌, ◌==◌, min, Bool, true, false}
use Rattle.std.specs.Prelude.{if◌then◌else◌, List, [], ◌∷◌, take}
use Rattle.std.specs.Char.{is_ascii_digit}
use Rattle.std.specs.List.{before_first, after_first, position_or_len}

abbrev pub ends_line : ℕ → Bool
ends_line byte = byte == 10

abbrev pub parts_words : ℕ → Bool
parts_words byte = byte == 32

-- the first line, without its end, and what follows its end
unfoldable pub first_line : List ℕ → List ℕ
first_line text = before_first ends_line text

unfoldable pub after_line : List ℕ → List ℕ
after_line text = after_first ends_line text

-- the first line with its end
unfoldable pub whole_line : List ℕ → List ℕ
whole_line text = take (position_or_len ends_line text + 1) text

-- what follows the first n lines
abbrev pub after_lines : ℕ → List ℕ → List ℕ
after_lines zero text = text
after_lines (suc n) text = after_lines n (after_line text)

-- the first line if it is written, otherwise an empty one; and what follows
abbrev pub line_if : Bool → List ℕ → List ℕ
line_if true text = first_line text
line_if false text = []

abbrev pub after_if : Bool → List ℕ → List ℕ
after_if true text = after_line text
after_if false text = text

-- the first word of a line, and what follows the space after it
unfoldable pub leading_word : List ℕ → List ℕ
leading_word line = before_first parts_words line

unfoldable pub after_word : List ℕ → List ℕ
after_word line = after_first parts_words line

-- the number n followed by the digits of a word; other bytes are ignored
abbrev pub digits_after : ℕ → List ℕ → ℕ
digits_after n [] = n
digits_after n (b ∷ word) = if is_ascii_digit b then digits_after (n * 10 + (b - 48)) word else digits_after n word

-- the number that the digits of a word give, at most 2 ^ 64 - 1
abbrev pub number_of_word : List ℕ → ℕ
number_of_word word = min (digits_after 0 word) (2 ^ 64 - 1)
