use Rattle.std.proofs.Common.{◌≡◌, ◌+◌, ◌*◌, ◌^◌, ◌≤◌, slice_index}
use Rattle.zh_divisors.specs.Sums.{sum_to}
use Rattle.zh_decided.specs.Bounds.{asked_in}
use Rattle.zh_decided.specs.Ways.{row_seats}
use Rattle.zh_decided.proofs.completion.seats_left.Given as goal

abbrev pub invariant-loop-row : goal.invariant-loop-row
invariant-loop-row l = record {
  left_is : sum_to l.row (row_seats (asked_in l.bounds) l.seats) + l.left ≡ sum_to l.row (slice_index l.bounds.question.now.row_totals.now);
  small : l.left ≤ 2 ^ 32 * l.row;
}
