-- The quotient of a list whose seats do not follow, as verdicts show it.
use Rattle.std.specs.Prelude.{ℕ, ◌*◌, ◌/◌, ◌%◌, ◌==◌, Bool, if◌then◌else◌, codes, decimal, List, [], ◌++◌}
use Rattle.zh_sheet_text.specs.SheetText.{divisor_text}
use Rattle.zh_text.specs.Numbers.{padded}
use Rattle.zh_check.specs.declared.checked.OffList.{OffList}
use Rattle.zh_check.specs.declared.checked.ListQuotient.{ListQuotient}
use Rattle.zh_check.specs.declared.checked.ListQuotient.TheVariants.{NoDivisor, OnHalf, RoundsTo}
use Rattle.zh_verdicts.specs.Wrong.{wrong_line}

-- a number of thousandths with three digits after the dot, and two dots if more digits follow
abbrev pub cut_off : ℕ → Bool → List ℕ
cut_off thousandths is_exact =
    decimal (thousandths / 1000) ++ codes "." ++ padded 3 (thousandths % 1000) ++ (if is_exact then [] else codes "..")

-- the division of votes by two divisors in millionths, and its quotient; or that a divisor is missing
abbrev pub quotient_text : ℕ → ℕ → ℕ → List ℕ
quotient_text votes row column =
    let thousandths = votes * 1000000000000000 in
    if row * column == 0 then codes "a divisor is missing"
    else (decimal votes ++ codes " / (" ++ divisor_text row ++ codes " x " ++ divisor_text column ++ codes ")" ++ codes " = "
    ++ cut_off (thousandths / (row * column)) (thousandths % (row * column) == 0))

-- what the quotient rounds to, or that it lies on a half; nothing if a divisor is missing
abbrev pub rounding_text : ListQuotient → List ℕ
rounding_text (RoundsTo seats) = codes " rounds to " ++ decimal seats
rounding_text OnHalf = codes " lies on a half"
rounding_text NoDivisor = []

-- the line of a list whose seats do not follow, with its quotient
abbrev pub off_text : OffList → List ℕ
off_text off =
    wrong_line off.line off.found.items ++ codes ": " ++ quotient_text off.votes off.row_divisor off.column_divisor
    ++ rounding_text off.quotient ++ codes "\n"
