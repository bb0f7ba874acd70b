use Rattle.std.proofs.Common.{◌≡◌, ◌*◌, ◌^◌, ◌≤◌}
use Rattle.zh_divisors.specs.Sums.{sum_to}
use Rattle.zh_matrices.specs.Question.{cell}
use Rattle.zh_matrices.proofs.certificates.row_sum.Given as goal

abbrev pub invariant-loop-column : goal.invariant-loop-column
invariant-loop-column l = record {
  sum_is : l.sum ≡ sum_to l.column (λ g. cell l.question.columns l.seats l.row g);
  small : l.sum ≤ 2 ^ 32 * l.column;
}
