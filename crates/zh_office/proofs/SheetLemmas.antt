-- Why a sheet is refused.
use Rattle.std.proofs.Common.{◌≡◌, ⊎_elim, Bool, true, false, inr, refl}
use Rattle.zh_returns.specs.Tally.{Tally}
use Rattle.zh_sheet.specs.declared.fault.SheetFault.{SheetFault}
use Rattle.zh_sheet.specs.declared.fault.SheetFault.TheVariants as faults
use Rattle.zh_commands.specs.declared.replies.Reply.TheVariants.{Refused}
use Rattle.zh_office.specs.Sheets.{AreClosed, MayAnswerSheet, MayGive, sheet_refusal}
use Rattle.zh_office.specs.declared.answer.Answer.{Answer}
use Rattle.zh_office.specs.declared.answer.Answer.TheVariants as answers

-- if a line can be answered with a fault of its sheet, it can be answered with whatever the totals allow
pub answered_instead : (tally : Tally) (is_final : Bool) (fault : SheetFault) (answer : Answer)
    → MayAnswerSheet tally is_final (answers.Reply (Refused (sheet_refusal fault))) → MayGive tally is_final answer
    → MayAnswerSheet tally is_final answer
answered_instead tally false fault answer may other = other
answered_instead tally true faults.Memory answer may other = ⊎_elim (λ first. absurd (cc first.2)) (λ closed. inr (closed.0, other)) may
answered_instead tally true (faults.Refused refusal) answer may other = ⊎_elim (λ first. absurd (cc first.2)) (λ closed. inr (closed.0, other)) may

-- what the totals allow is a possible answer to `sheet`, and to `final` if every municipality is closed
pub sheet_given : (tally : Tally) (is_final : Bool) (answer : Answer) → (is_final ≡ true → AreClosed tally) → MayGive tally is_final answer
    → MayAnswerSheet tally is_final answer
sheet_given tally false answer closed may = may
sheet_given tally true answer closed may = inr (closed refl, may)
