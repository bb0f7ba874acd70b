-- Numbers in decimal.
use Rattle.std.specs.Prelude.{ℕ, ◌-◌, ◌/◌, ◌%◌, List, ◌++◌, Option, Some, None, length, replicate, codes, decimal}

-- a number in decimal, padded with leading zeros to this many digits; 48 is the digit 0
abbrev pub padded : ℕ → ℕ → List ℕ
padded digits number = replicate (digits - length (decimal number)) 48 ++ decimal number

-- a number given in millionths, in decimal with six decimal places
abbrev pub millionths_text : ℕ → List ℕ
millionths_text millionths = decimal (millionths / 1000000) ++ codes "." ++ padded 6 (millionths % 1000000)

-- the text of a number, or a dash if there is none
abbrev pub or_dash : (ℕ → List ℕ) → Option ℕ → List ℕ
or_dash text None = codes "-"
or_dash text (Some number) = text number
