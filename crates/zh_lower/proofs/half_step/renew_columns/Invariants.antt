use Rattle.std.proofs.Common.{◌≡◌, ◌^◌, length}
use Rattle.zh_matrices.specs.Asked.{asked}
use Rattle.zh_matrices.specs.Divisors.{millionths}
use Rattle.zh_lower.specs.States.{renewed_column}
use Rattle.zh_lower.proofs.FilledLemmas.{AreRenewed}
use Rattle.zh_lower.proofs.half_step.renew_columns.Given as goal

abbrev pub invariant-loop-column : goal.invariant-loop-column
invariant-loop-column l = record {
  room : length l.votes ≡ l.question.rows;
  renewed : AreRenewed l.question.columns (10 ^ 12) (renewed_column (asked l.question) (millionths l.of_rows l.initial.of_columns))
      l.initial.of_columns l.of_columns l.column;
}
