use Rattle.std.proofs.Common.{◌≡◌, ℕ, ◌<◌, get_or}
use Rattle.zh_matrices.specs.Question.{cell}
use Rattle.zh_matrices.proofs.question.Question.copy_column.Given as goal

abbrev pub invariant-loop-row : goal.invariant-loop-row
invariant-loop-row l = (d : ℕ) → d < l.row → get_or l.into d 0 ≡ cell l.self.columns l.self.votes.now d l.column
