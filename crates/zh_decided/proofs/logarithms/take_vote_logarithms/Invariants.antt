use Rattle.std.proofs.Common.{◌≡◌, ℕ, ◌*◌, ◌^◌, ◌<◌, ◌≤◌, length, slice_index}
use Rattle.zh_decided.specs.Logarithms.{HasLogarithm, IsLog}
use Rattle.zh_decided.proofs.logarithms.take_vote_logarithms.Given as goal

abbrev pub invariant-loop-place : goal.invariant-loop-place
invariant-loop-place l = record {
  long : length l.into ≡ length l.question.votes.now;
  logs : (k : ℕ) → k < l.place → 0 < slice_index l.question.votes.now k → IsLog 0 2 (2 * slice_index l.question.votes.now k) (slice_index l.into k);
  small : (k : ℕ) → k < l.place → slice_index l.into k ≤ 2 ^ 36;
  logarithms_of : (k : ℕ) → k < l.place → 0 < slice_index l.question.votes.now k →
      HasLogarithm (2 * slice_index l.question.votes.now k) (slice_index l.into k);
  none : (k : ℕ) → k < l.place → slice_index l.question.votes.now k ≡ 0 → slice_index l.into k ≡ 0;
}
