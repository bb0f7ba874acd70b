use Rattle.std.proofs.Common.{◌≡◌, ℕ, ◌^◌, ◌<◌, ◌≤◌, length, get_or}
use Rattle.zh_matrices.specs.Asked.{asked}
use Rattle.zh_matrices.specs.Divisors.{millionths}
use Rattle.zh_lower.specs.States.{middle_column}
use Rattle.zh_lower.proofs.half_step.middle_columns.Given as goal

abbrev pub invariant-loop-column : goal.invariant-loop-column
invariant-loop-column l = record {
  room : length l.votes ≡ l.question.rows;
  done : (g : ℕ) → g < l.column → get_or l.of_columns g 0 ≡ middle_column (asked l.question) (millionths l.of_rows l.initial.of_columns) g;
  from_1 : (g : ℕ) → g < l.column → 1 ≤ get_or l.of_columns g 0;
  at_most : (g : ℕ) → g < l.column → get_or l.of_columns g 0 ≤ 10 ^ 12;
}
