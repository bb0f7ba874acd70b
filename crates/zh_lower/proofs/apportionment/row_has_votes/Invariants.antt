use Rattle.std.proofs.Common.{◌≡◌}
use Rattle.zh_divisors.specs.Sums.{sum_to}
use Rattle.zh_matrices.specs.Asked.{asked}
use Rattle.zh_matrices.specs.Question.{row_votes}
use Rattle.zh_lower.proofs.apportionment.row_has_votes.Given as goal

abbrev pub invariant-loop-column : goal.invariant-loop-column
invariant-loop-column l = sum_to l.column (row_votes (asked l.question) l.row) ≡ 0
