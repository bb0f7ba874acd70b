use Rattle.std.proofs.Common.{◌≡◌, ◌*◌, ◌^◌, ◌≤◌}
use Rattle.zh_divisors.specs.Sums.{sum_to}
use Rattle.zh_matrices.specs.Question.{cell}
use Rattle.zh_matrices.proofs.certificates.column_sum.Given as goal

abbrev pub invariant-loop-row : goal.invariant-loop-row
invariant-loop-row l = record {
  sum_is : l.sum ≡ sum_to l.row (λ d. cell l.question.columns l.seats d l.column);
  small : l.sum ≤ 2 ^ 32 * l.row;
}
