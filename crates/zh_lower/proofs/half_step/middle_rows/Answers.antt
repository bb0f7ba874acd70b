use Rattle.std.proofs.Common.{◌≡◌, ◌<◌, ◌≤◌, ◌^◌, length, refl, arith}
use Rattle.std.proofs.lemmas.List.FromFn.{fill_by_all}
use Rattle.zh_matrices.specs.Asked.{asked}
use Rattle.zh_matrices.specs.Divisors.{millionths}
use Rattle.zh_matrices.specs.Question.{Question, row_votes}
use Rattle.zh_lower.specs.States.{middle_row}
use Rattle.zh_lower.proofs.FilledLemmas.{AreWithin-filled, each_set}
use Rattle.zh_lower.proofs.LineLemmas.{row_line, started_is}
use Rattle.zh_lower.proofs.half_step.middle_rows.Goals as goal

pub line-requires-clause-line : goal.line-requires-clause-line
line-requires-clause-line c =
    row_line (asked c.args.question.now) c.loop-row.row _ _ c.args.question.now.sized c.requires.proper c.loop-row-test.true
    c.row.ensures.columns c.row.ensures.votes c.requires.columns

pub loop-row-preserved : goal.loop-row-preserved
loop-row-preserved c =
    let q : Question = asked c.args.question.now in
    let within : c.loop-row.row < length c.loop-row.of_rows = omega (arith, c.loop-row-test.true, c.loop-row.auto.of_rows, c.requires.rows) in
    let from_1 : 1 ≤ c.line.result = grind arith in
    let at_most : c.line.result ≤ 10 ^ 18 = grind arith in
    record {
      done = each_set (λ k x. x ≡ middle_row q (millionths c.args.of_rows.now c.args.of_columns.now) k) c.loop-row.of_rows c.loop-row.row c.line.result within
          (started_is q.columns _ (10 ^ 18) (row_votes q c.loop-row.row) c.row.result.now c.args.of_columns.now c.args.of_columns.now c.line.result
          c.row.ensures.columns c.row.ensures.votes refl c.line.ensures)
          c.loop-row.invariant.done;
      from_1 = each_set (λ _ x. 1 ≤ x) c.loop-row.of_rows c.loop-row.row c.line.result within from_1 c.loop-row.invariant.from_1;
      at_most = each_set (λ _ x. x ≤ 10 ^ 18) c.loop-row.of_rows c.loop-row.row c.line.result within at_most c.loop-row.invariant.at_most;
    }

pub returns-clause-rows : goal.returns-clause-rows
returns-clause-rows c =
    fill_by_all (middle_row (asked c.args.question.now) (millionths c.args.of_rows.now c.args.of_columns.now)) c.loop-row.of_rows
    c.args.question.now.rows 0 (omega (arith, c.loop-row.auto.of_rows, c.requires.rows))
    (λ d lt. c.loop-row.invariant.done d (omega (arith, c.loop-row-test.false, lt)))

pub returns-clause-limits : goal.returns-clause-limits
returns-clause-limits c = record {
  rows = AreWithin-filled _ _ _ (omega (arith, c.loop-row.auto.of_rows, c.requires.rows))
      (λ d lt. c.loop-row.invariant.from_1 d (omega (arith, c.loop-row-test.false, lt)))
      (λ d lt. c.loop-row.invariant.at_most d (omega (arith, c.loop-row-test.false, lt)));
  columns = c.requires.columns;
}
