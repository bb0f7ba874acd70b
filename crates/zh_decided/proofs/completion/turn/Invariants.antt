use Rattle.zh_decided.specs.Bounds.{asked_in, bounds_of}
use Rattle.zh_decided.specs.Ways.{way_at}
use Rattle.zh_decided.proofs.PathLemmas.{IsOnWay, rank_of}
use Rattle.zh_decided.proofs.completion.turn.Given as goal

abbrev pub invariant-loop-row : goal.invariant-loop-row
invariant-loop-row l = IsOnWay (asked_in l.bounds) (bounds_of l.bounds) l.initial.seats l.seats l.ways l.row

abbrev pub decreases-loop-row : goal.decreases-loop-row
decreases-loop-row l = rank_of (way_at l.ways l.row)
