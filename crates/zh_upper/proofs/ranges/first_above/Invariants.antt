use Rattle.std.proofs.Common.{◌<◌, ◌≤◌, ◌+◌, ◌*◌, ℕ}
use Rattle.zh_upper.specs.Halves.{total_up}
use Rattle.zh_upper.proofs.ranges.first_above.Given as goal

abbrev pub invariant-loop-half : goal.invariant-loop-half
invariant-loop-half l = (i : ℕ) → i < l.half → total_up l.weight (2 * i + 1) l.weights ≤ l.house
