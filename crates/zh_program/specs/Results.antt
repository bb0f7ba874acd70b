-- The seats of a count or of a published sheet, or why there are none.
use Rattle.std.specs.Prelude.{ℕ, Option, Some, None, Result, Ok, Err, List}
use Rattle.zh_districts.specs.Canton.{Canton}
use Rattle.zh_totals.specs.Totals.{VoteTotals}
use Rattle.zh_sheet.specs.Lots.{IsForTheLot, IsLotOf}
use Rattle.zh_sheet.specs.Reasons.{IsReason}
use Rattle.zh_sheet.specs.declared.fault.SheetFault.{SheetFault}
use Rattle.zh_sheet.specs.declared.fault.SheetFault.TheVariants as faults
use Rattle.zh_sheet.specs.declared.fault.SheetRefusal.{SheetRefusal}
use Rattle.zh_sheet.specs.declared.fault.SheetRefusal.TheVariants as sheets
use Rattle.zh_sheet.specs.declared.lot.Lot.{Lot}
use Rattle.zh_commands.specs.declared.replies.Reply.TheVariants as replies
use Rattle.zh_commands.specs.declared.replies.Refusal.TheVariants as refusals
use Rattle.zh_office.specs.declared.answer.Answer.{Answer}
use Rattle.zh_office.specs.declared.answer.Answer.TheVariants as answers
use Rattle.zh_check.specs.Verdicts.{IsRight}
use Rattle.zh_check.specs.declared.checked.RightSheet.{RightSheet}
use Rattle.zh_sheet_text.specs.declared.mark.MarkedSheet.{MarkedSheet}
use Rattle.zh_sheet_text.specs.declared.mark.NoSeats.{NoSeats}
use Rattle.zh_sheet_text.specs.declared.mark.NoSeats.TheVariants.{Refused, Exhausted, Tied, Wrong}

-- The answer to a line that asks for a sheet, if there are no seats for this reason.
abbrev pub refusal_answer : NoSeats → Answer
refusal_answer (Refused refusal) = answers.Reply (replies.Refused refusal)
refusal_answer (Exhausted reason) = answers.Reply (replies.Refused (refusals.Sheet sheets.Exhausted))
refusal_answer (Tied refusal lot) = answers.Reply (replies.Refused (refusals.Sheet refusal))
refusal_answer Wrong = answers.Reply replies.Nothing

abbrev pub answer_of : Result MarkedSheet NoSeats → Answer
answer_of (Ok seats) = answers.Sheet seats.sheet seats.mark.is_final
answer_of (Err why) = refusal_answer why

-- The reason why a fault leaves no seats, with the seats that the lot decides, if given.
abbrev pub told : SheetFault → Option Lot → NoSeats
told faults.Memory lot = Refused refusals.Memory
told (faults.Refused refusal) (Some lot) = Tied refusal lot
told (faults.Refused refusal) None = Refused (refusals.Sheet refusal)

-- A refusal that needs no further reason: neither an exhausted search nor a tie.
abbrev pub SaysAll : SheetRefusal → Type 0
SaysAll sheets.Exhausted = ⊥
SaysAll refusal = ¬ IsForTheLot refusal

-- An exhausted search has this reason, and tied seats have this lot. Any other refusal of the seats needs no reason.
abbrev pub IsReasonFor : VoteTotals → NoSeats → Type 0
IsReasonFor totals (Exhausted reason) = IsReason totals reason
IsReasonFor totals (Tied refusal lot) = IsLotOf totals refusal lot
IsReasonFor totals (Refused (refusals.Sheet refusal)) = SaysAll refusal
IsReasonFor totals why = Unit {0}

-- The bytes are not a right sheet of this set-up, whatever they are read as; or memory was refused.
abbrev pub IsNoSheetOf : Canton → List ℕ → NoSeats → Type 0
IsNoSheetOf canton bytes Wrong = (c : RightSheet) → ¬ IsRight canton None bytes c
IsNoSheetOf canton bytes (Refused refusals.Memory) = Unit {0}
IsNoSheetOf canton bytes why = ⊥
