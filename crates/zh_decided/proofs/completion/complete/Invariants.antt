use Rattle.std.proofs.Common.{◌≡◌, ◌+◌}
use Rattle.zh_decided.specs.Bounds.{asked_in, bounds_of}
use Rattle.zh_decided.specs.Ways.{ArePlaced, placed, to_place}
use Rattle.zh_decided.proofs.completion.complete.Given as goal

abbrev pub invariant-loop-seat : goal.invariant-loop-seat
invariant-loop-seat l = record {
  each : ArePlaced (asked_in l.bounds) (bounds_of l.bounds) l.seats;
  so_far : placed (asked_in l.bounds) l.seats + l._seat-end ≡ to_place (asked_in l.bounds) + l._seat;
}
