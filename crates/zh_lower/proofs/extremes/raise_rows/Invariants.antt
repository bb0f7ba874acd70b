use Rattle.std.proofs.Common.{◌≡◌, ℕ, ◌^◌, ◌<◌, ◌≤◌, get_or}
use Rattle.zh_matrices.specs.Asked.{asked}
use Rattle.zh_matrices.specs.Divisors.{AreWithin}
use Rattle.zh_lower.specs.Extremes.{Enclose, IsLeastRow}
use Rattle.zh_lower.proofs.extremes.raise_rows.Given as goal

abbrev pub invariant-loop-row : goal.invariant-loop-row
invariant-loop-row l = record {
  rows : AreWithin l.proposal.question.now.rows (10 ^ 18) l.of_rows;
  least : (d : ℕ) → d < l.row → IsLeastRow (asked l.proposal.question.now) l.proposal.seats.now l.of_columns d (get_or l.initial.of_rows d 0) (get_or l.of_rows d 0);
  others : (d : ℕ) → l.row ≤ d → get_or l.of_rows d 0 ≡ get_or l.initial.of_rows d 0;
  enclose : (top : ℕ) → Enclose (asked l.proposal.question.now) top l.proposal.seats.now l.initial.of_rows l.of_columns →
      Enclose (asked l.proposal.question.now) top l.proposal.seats.now l.of_rows l.of_columns;
}
