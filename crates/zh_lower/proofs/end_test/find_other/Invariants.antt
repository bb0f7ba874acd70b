use Rattle.std.proofs.Common.{ℕ, ◌<◌}
use Rattle.zh_decided.specs.Bounds.{IsFixedAt, asked_in, bounds_of}
use Rattle.zh_lower.proofs.end_test.find_other.Given as goal

abbrev pub invariant-loop-place : goal.invariant-loop-place
invariant-loop-place l = (k : ℕ) → k < l.place → IsFixedAt (asked_in l.bounds) (bounds_of l.bounds) l.seats k
