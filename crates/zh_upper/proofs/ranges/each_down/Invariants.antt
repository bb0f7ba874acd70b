use Rattle.std.proofs.Common.{◌≡◌, map, take}
use Rattle.zh_upper.specs.Halves.{rounded_down}
use Rattle.zh_upper.proofs.ranges.each_down.Given as goal

abbrev pub invariant-loop-weight : goal.invariant-loop-weight
invariant-loop-weight l = l.seats.items ≡ map (rounded_down l.divisor.weight l.divisor.odd) (take l.weight-index l.weights)
