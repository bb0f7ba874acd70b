-- The lines of the desks as bytes. A numeral is `decimal n`, with n below 2 ^ 32; 32 is the space.
use Rattle.std.specs.Prelude.{◌≡◌, ◌≢◌, ◌==◌, ◌&&◌, ◌-◌, ◌^◌, ◌<◌, ◌≤◌, ℕ, List, [], ◌∷◌, ◌++◌, length, decimal}
use Rattle.std.specs.Prelude.{nat_le, if◌then◌else◌, IfSome, Result, Ok, Err}
use Rattle.zh_returns.specs.Numbers.{IsDesk}
use Rattle.zh_commands.specs.Forms.{form_of, row_numbers}
use Rattle.zh_commands.specs.Words.{first_word, numerals, AreNumerals}
use Rattle.zh_returns.specs.declared.row.Row.{Row}
use Rattle.zh_commands.specs.declared.lines.Request.{Request}
use Rattle.zh_commands.specs.declared.lines.Line.{Line}
use Rattle.zh_commands.specs.declared.lines.LineFault.{LineFault}
use Rattle.zh_commands.specs.declared.lines.LineFault.TheVariants.{Syntax, Desk}

-- the only spelling of a line: its desk, a space, the word of its request, and the numerals, each after a space
abbrev pub spelling : Line → List ℕ
spelling line = decimal line.desk.number ++ 32 ∷ ((form_of line.request).word ++ numerals (form_of line.request).numbers)

-- the numbers of a row in order, each after a space
abbrev pub row_text : Row → List ℕ
row_text row = numerals (row_numbers row)

-- the numbers are below 2 ^ 32, and the replacement number is at least 1
abbrev pub IsRow : Row → Type 0
IsRow row = AreNumerals (row_numbers row) × (1 ≤ row.number)

-- the same for the numbers of any request
abbrev pub IsRequest : Request → Type 0
IsRequest request = AreNumerals (form_of request).numbers × IfSome (form_of request).replacement (λ number. 1 ≤ number)

-- at most 120 bytes, whose first word is a numeral but not the number of a desk
abbrev pub NamesNoDesk : List ℕ → Type 0
NamesNoDesk bytes = (length bytes ≤ 120) × ((n : ℕ) × (n < 2 ^ 32) × ¬ IsDesk n × (first_word bytes ≡ decimal n))

-- what reading a line gives: the line with this spelling, or its fault
abbrev pub ParsesAs : List ℕ → Result Line LineFault → Type 0
ParsesAs bytes (Ok line) = IsRequest line.request × (bytes ≡ spelling line)
ParsesAs bytes (Err Desk) = NamesNoDesk bytes
ParsesAs bytes (Err Syntax) = ¬ NamesNoDesk bytes × ((line : Line) → IsRequest line.request → bytes ≢ spelling line)

-- the digit if the bytes begin with 1 to 8 and a space, otherwise 0
abbrev pub desk_of : List ℕ → ℕ
desk_of [] = 0
desk_of (digit ∷ []) = 0
desk_of (digit ∷ next ∷ rest) = if nat_le 49 digit && nat_le digit 56 && next == 32 then digit - 48 else 0
