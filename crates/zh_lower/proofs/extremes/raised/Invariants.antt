use Rattle.std.proofs.Common.{ℕ, ◌+◌, ◌*◌, ◌^◌, ◌<◌, ◌≤◌, get_or}
use Rattle.zh_matrices.specs.Asked.{asked}
use Rattle.zh_matrices.specs.Question.{cell}
use Rattle.zh_lower.specs.Extremes.{IsBelow}
use Rattle.zh_lower.proofs.extremes.raised.Given as goal

abbrev pub invariant-loop-column : goal.invariant-loop-column
invariant-loop-column l = record {
  at_least : l.divisor ≤ l.least;
  below : (g : ℕ) → g < l.column →
      2 * (cell l.proposal.question.now.columns l.proposal.question.now.votes.now l.row g * 10 ^ 12)
      < (2 * cell l.proposal.question.now.columns l.proposal.seats.now l.row g + 1) * (l.least * get_or l.of_columns g 0);
  least : (other : ℕ) → l.divisor ≤ other → IsBelow (asked l.proposal.question.now) l.proposal.seats.now l.of_columns l.row other → l.least ≤ other;
}
