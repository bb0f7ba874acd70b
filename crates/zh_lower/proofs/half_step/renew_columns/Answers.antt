use Rattle.std.proofs.Common.{◌≡◌, ◌^◌, length, sym, ◌∙◌, arith}
use Rattle.zh_matrices.specs.Asked.{asked}
use Rattle.zh_matrices.specs.Divisors.{Divisors, millionths}
use Rattle.zh_matrices.specs.Question.{Question, column_votes}
use Rattle.zh_lower.specs.States.{renewed_column}
use Rattle.zh_lower.proofs.FilledLemmas.{all_renewed, one_kept, one_renewed}
use Rattle.zh_lower.proofs.LineLemmas.{column_line, renewed_by_line, renewed_kept}
use Rattle.zh_lower.proofs.QuotientLemmas.{column-unsettled, column_within, quotients-small}
use Rattle.zh_lower.proofs.half_step.renew_columns.Goals as goal
use Rattle.zh_lower.proofs.half_step.renew_columns.Goals.{then-is_unsettled, else-is_unsettled}

pub is_unsettled-requires-clause-within : goal.is_unsettled-requires-clause-within
is_unsettled-requires-clause-within c =
    column_within (asked c.args.question.now) (millionths c.args.of_rows.now c.args.of_columns.now) c.args.quotients.now c.loop-column.column
    c.requires.quotients c.loop-column-test.true

pub is_unsettled-requires-clause-small : goal.is_unsettled-requires-clause-small
is_unsettled-requires-clause-small c =
    quotients-small (asked c.args.question.now) c.args.of_rows.now c.args.of_columns.now _ c.args.question.now.sized c.requires.limits c.requires.quotients

pub line-requires-clause-line : goal.line-requires-clause-line
line-requires-clause-line c =
    column_line (asked c.args.question.now) c.loop-column.column _ _ c.args.question.now.sized c.requires.proper c.loop-column-test.true
    (grind arith) c.copy_column.ensures c.requires.limits.rows

pub loop-column-preserved : goal.loop-column-preserved
loop-column-preserved c =
    let q : Question = asked c.args.question.now in
    let x : Divisors = millionths c.args.of_rows.now c.args.of_columns.now in
    let long : length c.copy_column.new.into ≡ c.args.question.now.rows = grind arith in
    let tells = c.is_unsettled.ensures ∙ column-unsettled q x _ c.loop-column.column _ c.requires.quotients c.loop-column-test.true in
    record {
      room = long;
      renewed = elim c.if-is_unsettled.branch [
        | then-is_unsettled w ↦
            rw w.of_columns-is (one_renewed q.columns (10 ^ 12) (renewed_column q x) c.args.of_columns.now c.loop-column.of_columns
            c.loop-column.column w.line.result c.loop-column-test.true
            (renewed_by_line q.rows _ (10 ^ 12) (column_votes q c.loop-column.column) c.copy_column.new.into c.args.of_rows.now _ w.line.result
            (omega arith) long c.copy_column.ensures (sym tells ∙ w.if-is_unsettled.true) w.line.ensures)
            c.loop-column.invariant.renewed)
        | else-is_unsettled w ↦
            rw w.of_columns-is (one_kept q.columns (10 ^ 12) (renewed_column q x) c.args.of_columns.now c.loop-column.of_columns
            c.loop-column.column
            (renewed_kept q.rows _ (10 ^ 12) (column_votes q c.loop-column.column) c.args.of_rows.now _ (sym tells ∙ w.if-is_unsettled.false))
            c.loop-column.invariant.renewed)
      ];
    }

pub returns-clause-columns : goal.returns-clause-columns
returns-clause-columns c = all_renewed _ _ _ _ _ c.loop-column.column c.loop-column-test.false c.loop-column.invariant.renewed

pub returns-clause-limits : goal.returns-clause-limits
returns-clause-limits c = record { rows = c.requires.limits.rows; columns = c.loop-column.invariant.renewed.divisors }
