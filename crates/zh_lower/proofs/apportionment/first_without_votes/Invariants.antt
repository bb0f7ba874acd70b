use Rattle.std.proofs.Common.{ℕ, ◌<◌}
use Rattle.zh_matrices.specs.Asked.{asked}
use Rattle.zh_matrices.specs.Question.{HasVotes, row_votes}
use Rattle.zh_lower.proofs.apportionment.first_without_votes.Given as goal

abbrev pub invariant-loop-row : goal.invariant-loop-row
invariant-loop-row l = (d : ℕ) → d < l.row → HasVotes l.question.columns (row_votes (asked l.question) d)
