use Rattle.std.proofs.Common.{◌≡◌, ℕ, ◌<◌, get_or}
use Rattle.zh_divisors.specs.Sums.{sum_to}
use Rattle.zh_matrices.specs.Question.{cell}
use Rattle.zh_matrices.proofs.certificates.columns_add_up.Given as goal

abbrev pub invariant-loop-column : goal.invariant-loop-column
invariant-loop-column l = (g : ℕ) → g < l.column →
    sum_to l.question.rows (λ d. cell l.question.columns l.seats d g) ≡ get_or l.question.column_totals.now g 0
