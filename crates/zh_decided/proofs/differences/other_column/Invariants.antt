use Rattle.std.proofs.Common.{◌≢◌, ℕ, ◌<◌, ◌≤◌}
use Rattle.zh_matrices.specs.Question.{cell}
use Rattle.zh_decided.proofs.differences.other_column.Given as goal

abbrev pub invariant-loop-other : goal.invariant-loop-other
invariant-loop-other l = (f : ℕ) → f < l.other → f ≢ l.column →
    cell l.bounds.question.now.columns l.seats l.row f ≤ cell l.bounds.question.now.columns l.bounds.least.now l.row f
