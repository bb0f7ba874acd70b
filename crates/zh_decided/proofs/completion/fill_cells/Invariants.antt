use Rattle.zh_decided.specs.Bounds.{asked_in, bounds_of}
use Rattle.zh_decided.specs.Ways.{ArePlaced}
use Rattle.zh_decided.proofs.completion.fill_cells.Given as goal

abbrev pub invariant-loop-place : goal.invariant-loop-place
invariant-loop-place l = ArePlaced (asked_in l.bounds) (bounds_of l.bounds) l.seats
