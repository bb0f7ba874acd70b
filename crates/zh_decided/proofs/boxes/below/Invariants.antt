use Rattle.std.proofs.Common.{◌≡◌, ℕ, ◌-◌, ◌<◌, length, slice_index}
use Rattle.zh_decided.proofs.boxes.below.Given as goal

abbrev pub invariant-loop-line : goal.invariant-loop-line
invariant-loop-line l = record {
  long : length l.logarithms ≡ 32;
  each : (i : ℕ) → i < l.line → slice_index l.logarithms i ≡ l.top - slice_index l.potentials i;
}
