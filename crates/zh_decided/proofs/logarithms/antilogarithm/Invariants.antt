use Rattle.std.proofs.Common.{ℕ, ◌+◌, ◌-◌, ◌^◌, ◌<◌, ◌≤◌}
use Rattle.zh_decided.specs.Logarithms.{HasLogarithm, log_unit, power}
use Rattle.zh_decided.proofs.logarithms.antilogarithm.Given as goal

abbrev pub invariant-loop-high : goal.invariant-loop-high
invariant-loop-high l = record {
  least : 2 ^ l.bits ≤ l.low;
  some : l.low < l.high;
  most : l.high ≤ l.most + 1;
  reached : power l.low log_unit < power 2 (l.logarithm_of_it + 2);
  passed : power 2 l.logarithm_of_it ≤ power l.high log_unit;
  within : (k : ℕ) × HasLogarithm l.low k × (k ≤ l.logarithm_of_it);
  next : l.high ≤ l.most → (k : ℕ) × HasLogarithm l.high k × (l.logarithm_of_it < k);
}

abbrev pub decreases-loop-high : goal.decreases-loop-high
decreases-loop-high l = l.high - l.low
