-- The value of a `Question` of the code, which borrows its votes and totals.
use Rattle.zh_matrices.specs.Question.{Question}
use Rattle.zh_matrices.specs.declared.question.Question as borrowed

abbrev pub asked : borrowed.Question → Question
asked q = record {
  rows = q.rows;
  columns = q.columns;
  votes = q.votes.now;
  row_totals = q.row_totals.now;
  column_totals = q.column_totals.now;
}
