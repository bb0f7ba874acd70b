use Rattle.std.proofs.Common.{◌^◌, sym, ◌∙◌, arith}
use Rattle.zh_matrices.specs.Asked.{asked}
use Rattle.zh_matrices.specs.Divisors.{Divisors, millionths}
use Rattle.zh_matrices.specs.Question.{Question, row_votes}
use Rattle.zh_lower.specs.States.{renewed_row}
use Rattle.zh_lower.proofs.FilledLemmas.{all_renewed, none_renewed, one_kept, one_renewed}
use Rattle.zh_lower.proofs.LineLemmas.{renewed_by_line, renewed_kept, row_line}
use Rattle.zh_lower.proofs.QuotientLemmas.{quotients-small, row-unsettled, row_within}
use Rattle.zh_lower.proofs.half_step.renew_rows.Goals as goal
use Rattle.zh_lower.proofs.half_step.renew_rows.Goals.{then-is_unsettled, else-is_unsettled}

pub is_unsettled-requires-clause-within : goal.is_unsettled-requires-clause-within
is_unsettled-requires-clause-within c =
    row_within (asked c.args.question.now) (millionths c.args.of_rows.now c.args.of_columns.now) c.args.quotients.now c.loop-row.row
    c.requires.quotients c.loop-row-test.true

pub is_unsettled-requires-clause-small : goal.is_unsettled-requires-clause-small
is_unsettled-requires-clause-small c =
    quotients-small (asked c.args.question.now) c.args.of_rows.now c.args.of_columns.now _ c.args.question.now.sized c.requires.limits c.requires.quotients

pub line-requires-clause-line : goal.line-requires-clause-line
line-requires-clause-line c =
    row_line (asked c.args.question.now) c.loop-row.row _ _ c.args.question.now.sized c.requires.proper c.loop-row-test.true
    c.row.ensures.columns c.row.ensures.votes c.requires.limits.columns

pub loop-row-init : goal.loop-row-init
loop-row-init c = none_renewed _ _ _ c.args.of_rows.now c.requires.limits.rows

pub loop-row-preserved : goal.loop-row-preserved
loop-row-preserved c =
    let q : Question = asked c.args.question.now in
    let x : Divisors = millionths c.args.of_rows.now c.args.of_columns.now in
    let tells = c.is_unsettled.ensures ∙ row-unsettled q x _ c.loop-row.row _ c.requires.quotients c.loop-row-test.true in
    elim c.if-is_unsettled.branch [
      | then-is_unsettled w ↦
          rw w.of_rows-is (one_renewed q.rows (10 ^ 18) (renewed_row q x) c.args.of_rows.now c.loop-row.of_rows c.loop-row.row w.line.result
          c.loop-row-test.true
          (renewed_by_line q.columns _ (10 ^ 18) (row_votes q c.loop-row.row) w.row.result.now c.args.of_columns.now _ w.line.result (omega arith)
          w.row.ensures.columns w.row.ensures.votes (sym tells ∙ w.if-is_unsettled.true) w.line.ensures)
          c.loop-row.invariant)
      | else-is_unsettled w ↦
          rw w.of_rows-is (one_kept q.rows (10 ^ 18) (renewed_row q x) c.args.of_rows.now c.loop-row.of_rows c.loop-row.row
          (renewed_kept q.columns _ (10 ^ 18) (row_votes q c.loop-row.row) c.args.of_columns.now _ (sym tells ∙ w.if-is_unsettled.false))
          c.loop-row.invariant)
    ]

pub returns-clause-rows : goal.returns-clause-rows
returns-clause-rows c = all_renewed _ _ _ _ _ c.loop-row.row c.loop-row-test.false c.loop-row.invariant

pub returns-clause-limits : goal.returns-clause-limits
returns-clause-limits c = record { rows = c.loop-row.invariant.divisors; columns = c.requires.limits.columns }
