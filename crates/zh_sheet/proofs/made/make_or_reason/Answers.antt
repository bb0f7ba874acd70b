use Rattle.std.proofs.Common.{◌≡◌, Err, Ok, refl, subst}
use Rattle.zh_matrices.specs.Question.{Question, question}
use Rattle.zh_lower.specs.Reasons.{HandsOver}
use Rattle.zh_sheet.specs.Stages.{question_in}
use Rattle.zh_sheet.proofs.QuestionLemmas.{made_of}
use Rattle.zh_sheet.proofs.made.make_or_reason.Goals as goal

pub returns-in-Ok-clause-made : goal.returns-in-Ok-clause-made
returns-in-Ok-clause-made c =
    let asked = c.in_ok-asked.asked in
    let same : question asked.matrix c.seats-row_totals.result.now c.deref.result.now ≡ question_in asked
    = rw (c.seats-row_totals.ensures, c.deref.ensures.value) refl in
    let handed = subst (λ (q : Question). HandsOver q (Ok c.in-Ok.lower)) same c.in-Ok.ensures.outcome in
    rw (c.with_lists.ensures, c.in_ok-copy.ensures) (made_of c.args.totals.now asked c.in-Ok.lower c.in_ok-asked.ensures.given handed.outcome)

pub find_or_reason-requires-clause-row_totals : goal.find_or_reason-requires-clause-row_totals
find_or_reason-requires-clause-row_totals c = rw c.seats-row_totals.ensures c.in_ok-asked.ensures.given.can.row_totals

pub find_or_reason-requires-clause-column_totals : goal.find_or_reason-requires-clause-column_totals
find_or_reason-requires-clause-column_totals c = rw c.deref.ensures.value c.in_ok-asked.ensures.given.can.column_totals

pub find_or_reason-requires-clause-votes : goal.find_or_reason-requires-clause-votes
find_or_reason-requires-clause-votes c = rw (c.seats-row_totals.ensures, c.deref.ensures.value) c.in_ok-asked.ensures.given.can.votes

pub with_lists-requires-clause-asked : goal.with_lists-requires-clause-asked
with_lists-requires-clause-asked c = rw c.in_ok-copy.ensures c.in_ok-asked.ensures.given

pub no_sheet-requires-clause-asked : goal.no_sheet-requires-clause-asked
no_sheet-requires-clause-asked c = c.in_ok-asked.ensures.given

pub no_sheet-requires-clause-reason : goal.no_sheet-requires-clause-reason
no_sheet-requires-clause-reason c =
    let asked = c.in_ok-asked.asked in
    let same : question asked.matrix c.seats-row_totals.result.now c.deref.result.now ≡ question_in asked
    = rw (c.seats-row_totals.ensures, c.deref.ensures.value) refl in
    subst (λ (q : Question). HandsOver q (Err c.in-Err.reason)) same c.in-Err.ensures.outcome

pub returns-clause-made : goal.returns-clause-made
returns-clause-made c = c.no_sheet.ensures.made

pub returns-clause-none : goal.returns-clause-none
returns-clause-none c = c.no_sheet.ensures
