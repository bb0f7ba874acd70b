use Rattle.std.proofs.Common.{◌≡◌, ℕ, ◌<◌, ◌≤◌, length}
use Rattle.zh_decided.specs.Levels.{IsColumnMark, mark_at, potential_at}
use Rattle.zh_decided.specs.Taken.{priced_in}
use Rattle.zh_decided.proofs.levels.column_marks.Given as goal

abbrev pub invariant-loop-column : goal.invariant-loop-column
invariant-loop-column l = record {
  long : length l.columns ≡ 32;
  each : (g : ℕ) → g < l.column →
      IsColumnMark (priced_in l.priced) l.bounds l.rows (potential_at l.before g) g (mark_at l.columns
      g);
  floors : (g : ℕ) → g < l.column → l.bounds.column_floor ≤ potential_at l.columns g;
}
