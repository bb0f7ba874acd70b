use Rattle.std.proofs.Common.{◌≡◌, ℕ, ◌<◌, ◌≤◌, length}
use Rattle.zh_decided.specs.Levels.{IsRowMark, mark_at, potential_at}
use Rattle.zh_decided.specs.Taken.{priced_in}
use Rattle.zh_decided.proofs.levels.row_marks.Given as goal

abbrev pub invariant-loop-row : goal.invariant-loop-row
invariant-loop-row l = record {
  long : length l.rows ≡ 32;
  each : (d : ℕ) → d < l.row → IsRowMark (priced_in l.priced) l.bounds l.columns d (mark_at l.rows d);
  floors : (d : ℕ) → d < l.row → l.bounds.row_floor ≤ potential_at l.rows d;
}
