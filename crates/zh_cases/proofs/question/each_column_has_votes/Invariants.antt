use Rattle.std.proofs.Common.{ℕ, ◌<◌}
use Rattle.zh_cases.proofs.question.each_column_has_votes.Given as goal
use Rattle.zh_matrices.specs.Asked.{asked}
use Rattle.zh_matrices.specs.Question.{HasVotes, column_votes}

abbrev pub invariant-loop-column : goal.invariant-loop-column
invariant-loop-column l = (g : ℕ) → g < l.column → HasVotes l.question.rows (column_votes (asked l.question) g)
