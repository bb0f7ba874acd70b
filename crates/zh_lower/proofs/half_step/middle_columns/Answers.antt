use Rattle.std.proofs.Common.{◌≡◌, ◌<◌, ◌≤◌, ◌^◌, length, refl, arith}
use Rattle.std.proofs.lemmas.List.FromFn.{fill_by_all}
use Rattle.zh_matrices.specs.Asked.{asked}
use Rattle.zh_matrices.specs.Divisors.{millionths}
use Rattle.zh_matrices.specs.Question.{Question, column_votes}
use Rattle.zh_lower.specs.States.{middle_column}
use Rattle.zh_lower.proofs.FilledLemmas.{AreWithin-filled, each_set}
use Rattle.zh_lower.proofs.LineLemmas.{column_line, started_is}
use Rattle.zh_lower.proofs.half_step.middle_columns.Goals as goal

pub line-requires-clause-line : goal.line-requires-clause-line
line-requires-clause-line c =
    column_line (asked c.args.question.now) c.loop-column.column _ _ c.args.question.now.sized c.requires.proper c.loop-column-test.true
    (grind arith) c.copy_column.ensures c.requires.rows

pub loop-column-preserved : goal.loop-column-preserved
loop-column-preserved c =
    let q : Question = asked c.args.question.now in
    let long : length c.copy_column.new.into ≡ c.args.question.now.rows = grind arith in
    let within : c.loop-column.column < length c.loop-column.of_columns = omega (arith, c.loop-column-test.true, c.loop-column.auto.of_columns, c.requires.columns) in
    let from_1 : 1 ≤ c.line.result = grind arith in
    let at_most : c.line.result ≤ 10 ^ 12 = grind arith in
    record {
      room = long;
      done = each_set (λ k x. x ≡ middle_column q (millionths c.args.of_rows.now c.args.of_columns.now) k) c.loop-column.of_columns c.loop-column.column c.line.result within
          (started_is q.rows _ (10 ^ 12) (column_votes q c.loop-column.column) c.copy_column.new.into c.args.of_rows.now c.args.of_rows.now c.line.result
          long c.copy_column.ensures refl c.line.ensures)
          c.loop-column.invariant.done;
      from_1 = each_set (λ _ x. 1 ≤ x) c.loop-column.of_columns c.loop-column.column c.line.result within from_1 c.loop-column.invariant.from_1;
      at_most = each_set (λ _ x. x ≤ 10 ^ 12) c.loop-column.of_columns c.loop-column.column c.line.result within at_most c.loop-column.invariant.at_most;
    }

pub returns-clause-columns : goal.returns-clause-columns
returns-clause-columns c =
    fill_by_all (middle_column (asked c.args.question.now) (millionths c.args.of_rows.now c.args.of_columns.now)) c.loop-column.of_columns
    c.args.question.now.columns 0 (omega (arith, c.loop-column.auto.of_columns, c.requires.columns))
    (λ g lt. c.loop-column.invariant.done g (omega (arith, c.loop-column-test.false, lt)))

pub returns-clause-limits : goal.returns-clause-limits
returns-clause-limits c = record {
  rows = c.requires.rows;
  columns = AreWithin-filled _ _ _ (omega (arith, c.loop-column.auto.of_columns, c.requires.columns))
      (λ g lt. c.loop-column.invariant.from_1 g (omega (arith, c.loop-column-test.false, lt)))
      (λ g lt. c.loop-column.invariant.at_most g (omega (arith, c.loop-column-test.false, lt)));
}
