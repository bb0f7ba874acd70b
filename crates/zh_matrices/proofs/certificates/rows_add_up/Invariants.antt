use Rattle.std.proofs.Common.{◌≡◌, ℕ, ◌<◌, get_or}
use Rattle.zh_divisors.specs.Sums.{sum_to}
use Rattle.zh_matrices.specs.Question.{cell}
use Rattle.zh_matrices.proofs.certificates.rows_add_up.Given as goal

abbrev pub invariant-loop-row : goal.invariant-loop-row
invariant-loop-row l = (d : ℕ) → d < l.row →
    sum_to l.question.columns (λ g. cell l.question.columns l.seats d g) ≡ get_or l.question.row_totals.now d 0
