use Rattle.std.proofs.Common.{◌≡◌, ◌+◌, ◌*◌, ◌^◌, ◌≤◌}
use Rattle.zh_divisors.specs.Sums.{sum_to}
use Rattle.zh_lower.specs.Quotients.{kept_at, some_to}
use Rattle.zh_lower.proofs.half_step.is_unsettled.Given as goal

abbrev pub invariant-loop-i : goal.invariant-loop-i
invariant-loop-i l = record {
  sum_is : l.sum ≡ sum_to l.i (λ i. (kept_at l.quotients (l.places.first + i * l.places.step)).rounded);
  small : l.sum ≤ 10 ^ 27 * l.i;
  half : l.holds_half ≡ some_to l.i (λ i. (kept_at l.quotients (l.places.first + i * l.places.step)).is_half);
}
