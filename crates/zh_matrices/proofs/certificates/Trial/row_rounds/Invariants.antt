use Rattle.std.proofs.Common.{ℕ, ◌*◌, ◌<◌, get_or}
use Rattle.zh_matrices.specs.Question.{cell}
use Rattle.zh_matrices.specs.RoundingOf.{RoundsBy}
use Rattle.zh_matrices.proofs.certificates.Trial.row_rounds.Given as goal

abbrev pub invariant-loop-column : goal.invariant-loop-column
invariant-loop-column l = (g : ℕ) → g < l.column →
    RoundsBy l.self.rounding
    (cell l.self.proposal.now.question.now.columns l.self.proposal.now.question.now.votes.now l.row g * (1000000 * 1000000))
    (get_or l.self.of_rows.now l.row 0 * get_or l.self.of_columns.now g 0)
    (cell l.self.proposal.now.question.now.columns l.self.proposal.now.seats.now l.row g)
