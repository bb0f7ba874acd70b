use Rattle.std.proofs.Common.{ℕ, ◌+◌, ◌*◌, ◌^◌, ◌<◌, ◌≤◌, slice_index}
use Rattle.zh_decided.specs.Logarithms.{HasLogarithm, IsLog}
use Rattle.zh_decided.proofs.logarithms.take_odd_logarithms.Given as goal

abbrev pub invariant-loop-place : goal.invariant-loop-place
invariant-loop-place l = record {
  logs : (j : ℕ) → j < l.place → IsLog 0 2 (2 * j + 1) (slice_index l.into j);
  small : (j : ℕ) → j < l.place → slice_index l.into j ≤ 2 ^ 36;
  logarithms_of : (j : ℕ) → j < l.place → HasLogarithm (2 * j + 1) (slice_index l.into j);
}
