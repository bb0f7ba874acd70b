use Rattle.std.proofs.Common.{◌≡◌, ℕ, ◌^◌, ◌<◌, ◌≤◌, get_or}
use Rattle.zh_matrices.specs.Asked.{asked}
use Rattle.zh_matrices.specs.Divisors.{millionths}
use Rattle.zh_lower.specs.States.{middle_row}
use Rattle.zh_lower.proofs.half_step.middle_rows.Given as goal

abbrev pub invariant-loop-row : goal.invariant-loop-row
invariant-loop-row l = record {
  done : (d : ℕ) → d < l.row → get_or l.of_rows d 0 ≡ middle_row (asked l.question) (millionths l.initial.of_rows l.of_columns) d;
  from_1 : (d : ℕ) → d < l.row → 1 ≤ get_or l.of_rows d 0;
  at_most : (d : ℕ) → d < l.row → get_or l.of_rows d 0 ≤ 10 ^ 18;
}
