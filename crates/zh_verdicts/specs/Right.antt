-- The text of the verdict on a right sheet; 10 is LF.
use Rattle.std.specs.Prelude.{ℕ, ◌-◌, nat_lt, if◌then◌else◌, Bool, true, false, Option, Some, None, codes, decimal}
use Rattle.std.specs.Prelude.{List, [], ◌∷◌, ◌++◌}
use Rattle.zh_check.specs.declared.checked.RightSheet.{RightSheet}
use Rattle.zh_tables.specs.declared.held_rows.HeldRows.{HeldRows}
use Rattle.zh_verdicts.specs.Parts.{parts_text, rows_part}

abbrev pub kind_part : Bool → List ℕ
kind_part true = codes "not checked: final"
kind_part false = codes "not checked: provisional"

abbrev pub commands_part : ℕ → List ℕ
commands_part accepted = codes ", commands " ++ decimal accepted

abbrev pub desk_part : ℕ → List ℕ
desk_part desk = codes ", desk " ++ decimal desk ++ 10 ∷ []

-- what a check can't know
abbrev pub unchecked_line : RightSheet → List ℕ
unchecked_line right = kind_part right.head.is_final ++ commands_part right.head.accepted ++ desk_part right.head.desk

-- the sheet is right for the rows that are held, and this many returns are missing
abbrev pub missing_line : HeldRows → List ℕ
missing_line rows =
    codes "sheet ok for " ++ rows_part rows ++ codes ": " ++ decimal (rows.due - rows.held) ++ codes " returns are missing\n"

-- what the check has shown: without an export, with one that lacks returns, or with one that has them all
abbrev pub worth_line : Option HeldRows → List ℕ
worth_line None = codes "sheet ok for these votes; that they were returned is not checked\n"
worth_line (Some rows) =
    if nat_lt rows.held rows.due then missing_line rows else codes "sheet ok: no other seats follow from these votes\n"

-- the whole text; the votes were compared with the sums of these rows, or with nothing
abbrev pub right_verdict : Option HeldRows → RightSheet → List ℕ
right_verdict held right = parts_text held ++ unchecked_line right ++ worth_line held
