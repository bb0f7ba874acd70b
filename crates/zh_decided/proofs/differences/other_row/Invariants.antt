use Rattle.std.proofs.Common.{◌≢◌, ℕ, ◌<◌, ◌≤◌}
use Rattle.zh_matrices.specs.Question.{cell}
use Rattle.zh_decided.proofs.differences.other_row.Given as goal

abbrev pub invariant-loop-other : goal.invariant-loop-other
invariant-loop-other l = (e : ℕ) → e < l.other → e ≢ l.row →
    cell l.bounds.question.now.columns l.seats e l.column ≤ cell l.bounds.question.now.columns l.bounds.least.now e l.column
