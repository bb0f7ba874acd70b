use Rattle.std.proofs.Common.{Err, subst}
use Rattle.zh_totals.specs.Totals.{VoteTotals}
use Rattle.zh_sheet.specs.Reasons.{sheet_fault}
use Rattle.zh_office.proofs.CallerLemmas.{answered_instead}
use Rattle.zh_office.specs.Sheets.{IsWhy, MayAnswerSheet, MayGiveFor, sheet_answer}
use Rattle.zh_office.specs.declared.queries.NotGiven.{NotGiven}
use Rattle.zh_program.specs.Results.{IsReasonFor, refusal_answer}
use Rattle.zh_program.proofs.seats_counted.seats_by_count.Goals as goal

pub why_none-requires : goal.why_none-requires
why_none-requires c =
    rw c.totals.ensures (subst (λ (why : NotGiven). IsWhy c.args.office.now.ledger.tally why) c.in-Err-NoSheet.field-0-is c.in-Err-NoSheet.ensures.why)

pub returns-in-Err-NoSheet-clause-answer : goal.returns-in-Err-NoSheet-clause-answer
returns-in-Err-NoSheet-clause-answer c =
    let tally = c.args.office.now.ledger.tally in
    let may = subst (λ (why : NotGiven). MayAnswerSheet tally c.args.is_final (sheet_answer c.args.is_final (Err why)))
    c.in-Err-NoSheet.field-0-is c.in-Err-NoSheet.ensures.answer in
    answered_instead tally c.args.is_final (sheet_fault c.in-Err-NoSheet.none) _ may
    (subst (λ (totals : VoteTotals). MayGiveFor totals c.args.is_final (refusal_answer c.why_none.result)) c.totals.ensures (c.why_none.ensures.answer c.args.is_final))

pub returns-in-Err-NoSheet-clause-reason : goal.returns-in-Err-NoSheet-clause-reason
returns-in-Err-NoSheet-clause-reason c = subst (λ (totals : VoteTotals). IsReasonFor totals c.why_none.result) c.totals.ensures c.why_none.ensures.reason
