-- The answers to the lines that ask for a sheet.
use Rattle.std.specs.Prelude.{◌≡◌, ◌⊎◌, ℕ, ◌<◌, ◌≤◌, Bool, true, false, length, Result, Ok, Err}
use Rattle.std.specs.FinSet as set
use Rattle.zh_returns.specs.Tally.{Tally}
use Rattle.zh_returns.specs.declared.judgement.Reason.TheVariants as reasons
use Rattle.zh_totals.specs.Counting.{totals_of}
use Rattle.zh_totals.specs.Totals.{VoteTotals}
use Rattle.zh_sheet.specs.Distribution.{Distribution}
use Rattle.zh_sheet.specs.Made.{IsMade}
use Rattle.zh_sheet.specs.Reasons.{HaveNoSheet, sheet_fault}
use Rattle.zh_sheet.specs.declared.fault.SheetFault.{SheetFault}
use Rattle.zh_sheet.specs.declared.fault.SheetFault.TheVariants as faults
use Rattle.zh_commands.specs.declared.replies.Reply.TheVariants.{Refused}
use Rattle.zh_commands.specs.declared.replies.Refusal.{Refusal}
use Rattle.zh_commands.specs.declared.replies.Refusal.TheVariants as refusals
use Rattle.zh_office.specs.declared.answer.Answer.{Answer}
use Rattle.zh_office.specs.declared.answer.Answer.TheVariants as answers
use Rattle.zh_office.specs.declared.queries.NotGiven.{NotGiven}
use Rattle.zh_office.specs.declared.queries.NotGiven.TheVariants.{NoSheet, NotClosed}

-- the refusal of a sheet for this fault
abbrev pub sheet_refusal : SheetFault → Refusal
sheet_refusal faults.Memory = refusals.Memory
sheet_refusal (faults.Refused refusal) = refusals.Sheet refusal

-- the answer with this sheet, or with the fault in making it
abbrev pub answer_with : Bool → Result Distribution SheetFault → Answer
answer_with is_final (Ok sheet) = answers.Sheet sheet is_final
answer_with is_final (Err fault) = answers.Reply (Refused (sheet_refusal fault))

-- the answer for these totals: their sheet, or the fault in making it
abbrev pub MayGiveFor : VoteTotals → Bool → Answer → Type 0
MayGiveFor totals is_final answer = (made : Result Distribution SheetFault) × IsMade totals made × (answer ≡ answer_with is_final made)

-- the answer for a count is that for its totals
abbrev pub MayGive : Tally → Bool → Answer → Type 0
MayGive tally is_final answer = MayGiveFor (totals_of tally) is_final answer

-- every municipality is closed
abbrev pub AreClosed : Tally → Type 0
AreClosed tally = (m : ℕ) → 1 ≤ m → m ≤ length tally.canton.municipalities → set.contains tally.closed m ≡ true

-- this municipality is the lowest-numbered open one
pub record IsFirstOpen (tally : Tally) (m : ℕ) : Type 0 where
  pub from_one : 1 ≤ m
  pub there : m ≤ length tally.canton.municipalities
  pub not_closed : set.contains tally.closed m ≡ false
  pub before : (k : ℕ) → 1 ≤ k → k < m → set.contains tally.closed k ≡ true

-- the lowest-numbered open municipality is reported; if none is open, the final sheet is given
abbrev pub MayAnswerFinal : Tally → Answer → Type 0
MayAnswerFinal tally answer =
    ((m : ℕ) × IsFirstOpen tally m × (answer ≡ answers.Reply (Refused (refusals.Judged (reasons.NotClosed m)))))
    ⊎ (AreClosed tally × MayGive tally true answer)

-- the possible answers to the line `sheet`, or to the line `final`
abbrev pub MayAnswerSheet : Tally → Bool → Answer → Type 0
MayAnswerSheet tally false answer = MayGive tally false answer
MayAnswerSheet tally true answer = MayAnswerFinal tally answer

-- the refusal of a sheet that is not given
abbrev pub refusal_of : NotGiven → Refusal
refusal_of (NotClosed m) = refusals.Judged (reasons.NotClosed m)
refusal_of (NoSheet none) = sheet_refusal (sheet_fault none)

-- the answer with this sheet, or with the reason why it is not given
abbrev pub sheet_answer : Bool → Result Distribution NotGiven → Answer
sheet_answer is_final (Ok sheet) = answers.Sheet sheet is_final
sheet_answer is_final (Err why) = answers.Reply (Refused (refusal_of why))

-- if no sheet was made of the totals, everything that was found out about it is true
abbrev pub IsWhy : Tally → NotGiven → Type 0
IsWhy tally (NotClosed m) = Unit {0}
IsWhy tally (NoSheet none) = HaveNoSheet (totals_of tally) none
