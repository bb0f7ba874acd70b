use Rattle.std.proofs.Common.{◌≡◌, ◌^◌, ◌≤◌, []}
use Rattle.zh_matrices.specs.Asked.{asked}
use Rattle.zh_matrices.specs.Divisors.{AreWithin, millionths}
use Rattle.zh_lower.specs.Second.{middled}
use Rattle.zh_lower.proofs.divisors.middle.Given as goal

abbrev pub invariant-loop-time : goal.invariant-loop-time
invariant-loop-time l = record {
  columns : l.of_columns ≡ (middled (asked l.question) l._time (millionths [] l.initial.of_columns)).of_columns;
  all : 1 ≤ l._time → millionths l.of_rows l.of_columns ≡ middled (asked l.question) l._time (millionths [] l.initial.of_columns);
  within : AreWithin l.question.columns (10 ^ 12) l.of_columns;
  within_rows : 1 ≤ l._time → AreWithin l.question.rows (10 ^ 18) l.of_rows;
}
