use Rattle.std.proofs.Common.{ℕ, ◌-◌, ◌*◌, ◌^◌, ◌<◌, ◌≤◌, get_or}
use Rattle.zh_matrices.specs.Asked.{asked}
use Rattle.zh_matrices.specs.Question.{cell}
use Rattle.zh_lower.specs.Extremes.{IsAbove}
use Rattle.zh_lower.proofs.extremes.lowered.Given as goal

abbrev pub invariant-loop-row : goal.invariant-loop-row
invariant-loop-row l = record {
  at_most : l.greatest ≤ l.divisor;
  above : 1 ≤ l.greatest → (d : ℕ) → d < l.row → 1 ≤ cell l.proposal.question.now.columns l.proposal.seats.now d l.column →
      (2 * cell l.proposal.question.now.columns l.proposal.seats.now d l.column - 1) * (get_or l.of_rows d 0 * l.greatest)
      < 2 * (cell l.proposal.question.now.columns l.proposal.question.now.votes.now d l.column * 10 ^ 12);
  greatest : (other : ℕ) → other ≤ l.divisor → IsAbove (asked l.proposal.question.now) l.proposal.seats.now l.of_rows l.column other → other ≤ l.greatest;
}
