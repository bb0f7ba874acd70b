-- The reason why there is no sheet, as the line that asks for it is answered.
use Rattle.std.proofs.Common.{Bool, Option, Some, None, Err, refl, arith}
use Rattle.zh_totals.specs.Totals.{VoteTotals}
use Rattle.zh_sheet.specs.Lots.{IsForTheLot, IsLotFor}
use Rattle.zh_sheet.specs.Made.{IsMade}
use Rattle.zh_sheet.specs.Refusals.{IfRefused, IsBeforeSearch}
use Rattle.zh_sheet.specs.declared.fault.SheetFault.{SheetFault}
use Rattle.zh_sheet.specs.declared.fault.SheetFault.TheVariants as faults
use Rattle.zh_sheet.specs.declared.fault.SheetRefusal.{SheetRefusal}
use Rattle.zh_sheet.specs.declared.fault.SheetRefusal.TheVariants as sheets
use Rattle.zh_sheet.specs.declared.lot.Lot.{Lot}
use Rattle.zh_sheet.proofs.CallerLemmas.{memory_answer}
use Rattle.zh_commands.specs.declared.replies.Reply.TheVariants as replies
use Rattle.zh_commands.specs.declared.replies.Refusal.TheVariants as refusals
use Rattle.zh_office.specs.Sheets.{MayGiveFor}
use Rattle.zh_office.specs.declared.answer.Answer.TheVariants as answers
use Rattle.zh_program.specs.Results.{IsReasonFor, SaysAll, refusal_answer, told}

-- Memory may be refused instead of any sheet.
pub no_memory : (totals : VoteTotals) (is_final : Bool) → MayGiveFor totals is_final (answers.Reply (replies.Refused refusals.Memory))
no_memory totals is_final = (Err faults.Memory, record { sheet = tt; refused = memory_answer totals }, refl)

pub told_so : (totals : VoteTotals) (fault : SheetFault) (lot : Option Lot) → IsMade totals (Err fault) → (is_final : Bool) →
    MayGiveFor totals is_final (refusal_answer (told fault lot))
told_so totals faults.Memory lot made is_final = (Err faults.Memory, made, refl)
told_so totals (faults.Refused refusal) (Some lot) made is_final = (Err (faults.Refused refusal), made, refl)
told_so totals (faults.Refused refusal) None made is_final = (Err (faults.Refused refusal), made, refl)

-- A refusal that comes before the search and is not for the lot needs no further reason.
says_all : (refusal : SheetRefusal) → IsBeforeSearch refusal → ¬ IsForTheLot refusal → SaysAll refusal
says_all sheets.Exhausted early no_lot = absurd (omega (arith, early))
says_all sheets.TiedSeats early no_lot = no_lot
says_all (sheets.NoSeat d) early no_lot = no_lot
says_all (sheets.NoUpperSeats why) early no_lot = no_lot
says_all (sheets.NoVotes d) early no_lot = no_lot
says_all (sheets.TiedLower d g) early no_lot = no_lot

pub reason_before : (totals : VoteTotals) (fault : SheetFault) (lot : Option Lot) → IfRefused fault IsBeforeSearch →
    IfRefused fault (λ refusal. IsLotFor totals refusal lot) → IsReasonFor totals (told fault lot)
reason_before totals faults.Memory lot early is = tt
reason_before totals (faults.Refused refusal) (Some lot) early is = is
reason_before totals (faults.Refused refusal) None early is = says_all refusal early is
