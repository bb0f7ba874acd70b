use Rattle.std.proofs.Common.{◌≡◌, ◌≤◌, ◌*◌, ◌^◌, sum_by, take}
use Rattle.zh_upper.specs.Halves.{rounded_up}
use Rattle.zh_upper.proofs.ranges.total_up.Given as goal

abbrev pub invariant-loop-weight : goal.invariant-loop-weight
invariant-loop-weight l =
    (l.total ≡ sum_by (rounded_up l.divisor.weight l.divisor.odd) (take l.weight-index l.weights)) × (l.total ≤ 10 ^ 17 * l.weight-index)
