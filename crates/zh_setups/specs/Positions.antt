-- Positions in a text. Lines and columns are counted from 1. A line ends with LF (10), and a column is one character in UTF-8.
use Rattle.std.specs.Prelude.{◌+◌, ◌==◌, ◌&&◌, ℕ, Bool, List, nat_le, nat_lt, fold, if◌then◌else◌}
use Rattle.zh_setups.specs.declared.text.Position.{Position}

-- a UTF-8 continuation byte
abbrev pub goes_on : ℕ → Bool
goes_on byte = nat_le 128 byte && nat_lt byte 192

-- the position after one more byte
abbrev pub moved : Position → ℕ → Position
moved at byte =
    if byte == 10 then record { line = at.line + 1; column = 1 }
    else (if goes_on byte then at else record { line = at.line; column = at.column + 1 })

-- the position after these bytes, from line 1, column 1
abbrev pub position_after : List ℕ → Position
position_after bytes = fold moved (record { line = 1; column = 1 }) bytes
