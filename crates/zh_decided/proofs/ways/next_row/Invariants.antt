use Rattle.std.proofs.Common.{◌≡◌, ℕ, ◌<◌, None}
use Rattle.zh_decided.specs.Bounds.{asked_in, bounds_of}
use Rattle.zh_decided.specs.Ways.{HasNoWay, way_at}
use Rattle.zh_decided.proofs.ways.next_row.Given as goal

abbrev pub invariant-loop-row : goal.invariant-loop-row
invariant-loop-row l = (d : ℕ) → d < l.row → way_at l.ways d ≡ None → HasNoWay (asked_in l.bounds) (bounds_of l.bounds) l.seats l.ways d
