use Rattle.std.proofs.Common.{◌≡◌, ℕ, ◌*◌, ◌<◌, length, get_or}
use Rattle.zh_decided.specs.Bounds.{asked_in}
use Rattle.zh_lower.specs.Ties.{HasRangeAt}
use Rattle.zh_lower.proofs.tie.take_ranges.Given as goal

abbrev pub invariant-loop-place : goal.invariant-loop-place
invariant-loop-place l = record {
  least : length l.ranges.least.items ≡ l.bounds.question.now.rows * l.bounds.question.now.columns;
  most : length l.ranges.most.items ≡ l.bounds.question.now.rows * l.bounds.question.now.columns;
  others : length l.others ≡ l.bounds.question.now.rows * l.bounds.question.now.columns;
  each : (k : ℕ) → k < l.place → HasRangeAt (asked_in l.bounds) k (get_or l.ranges.least.items k 0) (get_or l.ranges.most.items k 0);
}
