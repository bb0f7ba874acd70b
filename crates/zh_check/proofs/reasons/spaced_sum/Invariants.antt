use Rattle.std.proofs.Common.{◌≡◌, ◌≤◌, ◌*◌}
use Rattle.zh_check.specs.Totals.{spaced_sum}
use Rattle.zh_check.proofs.reasons.spaced_sum.Given as goal

-- the sum of the terms so far
abbrev pub invariant-loop-term : goal.invariant-loop-term
invariant-loop-term l = record {
  sum : l.sum ≡ spaced_sum l.seats l.first l.term l.step;
  few : l.sum ≤ 400 * l.term;
}
