use Rattle.std.proofs.Common.{◌-◌}
use Rattle.zh_decided.specs.Bounds.{asked_in, bounds_of}
use Rattle.zh_decided.specs.Ways.{ArePlaced, placed, to_place}
use Rattle.zh_decided.proofs.completion.fill_cell.Given as goal

abbrev pub invariant-loop-seats : goal.invariant-loop-seats
invariant-loop-seats l = ArePlaced (asked_in l.bounds) (bounds_of l.bounds) l.seats

abbrev pub decreases-loop-seats : goal.decreases-loop-seats
decreases-loop-seats l = to_place (asked_in l.bounds) - placed (asked_in l.bounds) l.seats
