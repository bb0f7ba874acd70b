-- The report of why there are no seats; 10 is LF.
use Rattle.std.specs.Prelude.{ℕ, List, [], ◌∷◌, ◌++◌, codes}
use Rattle.zh_districts.specs.Canton.{Canton}
use Rattle.zh_sheet.specs.declared.fault.SheetRefusal.TheVariants as sheets
use Rattle.zh_commands.specs.declared.replies.Refusal.TheVariants as refusals
use Rattle.zh_sheet_text.specs.Lots.{lot_text}
use Rattle.zh_sheet_text.specs.Refusals.{reason_text, refusal_line}
use Rattle.zh_sheet_text.specs.declared.mark.NoSeats.{NoSeats}
use Rattle.zh_sheet_text.specs.declared.mark.NoSeats.TheVariants.{Refused, Exhausted, Tied, Wrong}

-- the line of the refusal, and after it the reason of an exhausted search or what the lot decides; or that a sheet is wrong
abbrev pub refusal_text : Canton → NoSeats → List ℕ
refusal_text canton (Refused refusal) = refusal_line refusal
refusal_text canton (Exhausted reason) = refusal_line (refusals.Sheet sheets.Exhausted) ++ reason_text canton reason ++ 10 ∷ []
refusal_text canton (Tied refusal lot) = refusal_line (refusals.Sheet refusal) ++ lot_text canton lot ++ 10 ∷ []
refusal_text canton Wrong = codes "zhcount: sheet wrong\n"
