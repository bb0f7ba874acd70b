use Rattle.std.proofs.Common.{◌≡◌, ℕ, ◌<◌, None}
use Rattle.zh_matrices.specs.Question.{cell}
use Rattle.zh_decided.specs.Ways.{source_at}
use Rattle.zh_decided.proofs.ways.open_column.Given as goal

abbrev pub invariant-loop-column : goal.invariant-loop-column
invariant-loop-column l = (g : ℕ) → g < l.column →
    cell l.bounds.question.now.columns l.seats l.row g < cell l.bounds.question.now.columns l.bounds.most.now l.row g → source_at l.sources g ≡ None
