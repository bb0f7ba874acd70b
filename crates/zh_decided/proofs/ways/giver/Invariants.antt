use Rattle.std.proofs.Common.{ℕ, ◌<◌, ◌≤◌, IsSome}
use Rattle.zh_matrices.specs.Question.{cell}
use Rattle.zh_decided.specs.Ways.{way_at}
use Rattle.zh_decided.proofs.ways.giver.Given as goal

abbrev pub invariant-loop-row : goal.invariant-loop-row
invariant-loop-row l = (d : ℕ) → d < l.row → IsSome (way_at l.ways d) →
    cell l.bounds.question.now.columns l.seats d l.column ≤ cell l.bounds.question.now.columns l.bounds.least.now d l.column
