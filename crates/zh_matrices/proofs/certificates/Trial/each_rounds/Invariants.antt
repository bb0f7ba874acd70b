use Rattle.std.proofs.Common.{ℕ, ◌*◌, ◌<◌, get_or}
use Rattle.zh_matrices.specs.Question.{cell}
use Rattle.zh_matrices.specs.RoundingOf.{RoundsBy}
use Rattle.zh_matrices.proofs.certificates.Trial.each_rounds.Given as goal

abbrev pub invariant-loop-row : goal.invariant-loop-row
invariant-loop-row l = (d g : ℕ) → d < l.row → g < l.self.proposal.now.question.now.columns →
    RoundsBy l.self.rounding
    (cell l.self.proposal.now.question.now.columns l.self.proposal.now.question.now.votes.now d g * (1000000 * 1000000))
    (get_or l.self.of_rows.now d 0 * get_or l.self.of_columns.now g 0)
    (cell l.self.proposal.now.question.now.columns l.self.proposal.now.seats.now d g)
