use Rattle.std.proofs.Common.{◌≡◌, ◌*◌, ◌≤◌, slice_index}
use Rattle.zh_divisors.specs.Sums.{sum_to}
use Rattle.zh_decided.proofs.within.sum_of.Given as goal

abbrev pub invariant-loop-line : goal.invariant-loop-line
invariant-loop-line l = record {
  sum : l.sum ≡ sum_to l.line (λ line. slice_index l.totals line);
  few : l.sum ≤ 4294967295 * l.line;
}
