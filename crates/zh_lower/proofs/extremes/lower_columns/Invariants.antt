use Rattle.std.proofs.Common.{◌≡◌, ℕ, ◌<◌, ◌≤◌, false, get_or}
use Rattle.zh_matrices.specs.Asked.{asked}
use Rattle.zh_matrices.specs.Divisors.{AreWithin}
use Rattle.zh_lower.specs.Extremes.{Enclose, IsGreatestColumn}
use Rattle.zh_lower.proofs.extremes.lower_columns.Given as goal

abbrev pub invariant-loop-column : goal.invariant-loop-column
invariant-loop-column l = record {
  columns : AreWithin l.proposal.question.now.columns l.top l.of_columns;
  greatest : (g : ℕ) → g < l.column →
      IsGreatestColumn (asked l.proposal.question.now) l.proposal.seats.now l.of_rows g (get_or l.initial.of_columns g 0) (get_or l.of_columns g 0);
  others : (g : ℕ) → l.column ≤ g → get_or l.of_columns g 0 ≡ get_or l.initial.of_columns g 0;
  still : l.moved ≡ false → (g : ℕ) → g < l.column → get_or l.of_columns g 0 ≡ get_or l.initial.of_columns g 0;
  enclose : Enclose (asked l.proposal.question.now) l.top l.proposal.seats.now l.of_rows l.initial.of_columns →
      Enclose (asked l.proposal.question.now) l.top l.proposal.seats.now l.of_rows l.of_columns;
}
