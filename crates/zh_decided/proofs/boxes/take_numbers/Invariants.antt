use Rattle.std.proofs.Common.{ℕ, ◌-◌, ◌^◌, ◌<◌, ◌≤◌, slice_index}
use Rattle.zh_decided.specs.Logarithms.{IsAntilogarithm, IsLog}
use Rattle.zh_decided.proofs.boxes.take_numbers.Given as goal

abbrev pub invariant-loop-line : goal.invariant-loop-line
invariant-loop-line l = record {
  logs : (k : ℕ) → k < l.line → IsLog (2 ^ (31 - l.bits)) 2 (slice_index l.into k) (slice_index l.logarithms k);
  from_least : (k : ℕ) → k < l.line → 2 ^ l.bits ≤ slice_index l.into k;
  at_most : (k : ℕ) → k < l.line → slice_index l.into k ≤ l.most;
  antilogarithms : (k : ℕ) → k < l.line → IsAntilogarithm (slice_index l.logarithms k) l.most (slice_index l.into k);
}
