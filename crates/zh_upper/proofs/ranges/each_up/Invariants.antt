use Rattle.std.proofs.Common.{◌≡◌, map, take}
use Rattle.zh_upper.specs.Halves.{rounded_up}
use Rattle.zh_upper.proofs.ranges.each_up.Given as goal

abbrev pub invariant-loop-weight : goal.invariant-loop-weight
invariant-loop-weight l = l.seats.items ≡ map (rounded_up l.divisor.weight l.divisor.odd) (take l.weight-index l.weights)
