use Rattle.std.proofs.Common.{◌≡◌, ℕ, ◌<◌, ◌≤◌, IsSome, get_or, length}
use Rattle.zh_decided.specs.Bounds.{asked_in, bounds_of}
use Rattle.zh_decided.specs.Ways.{AreSources, AreWays, row_seats, way_at}
use Rattle.zh_decided.proofs.WayLemmas.{RanksAreBelow, count}
use Rattle.zh_decided.proofs.ways.reach.Given as goal

abbrev pub invariant-loop-rank : goal.invariant-loop-rank
invariant-loop-rank l = record {
  table : length l.sources ≡ 32;
  sources : AreSources (asked_in l.bounds) (bounds_of l.bounds) l.seats l.ways l.sources;
  ways : AreWays (asked_in l.bounds) (bounds_of l.bounds) l.seats l.ways;
  ranks : RanksAreBelow (asked_in l.bounds) l.ways l.rank;
  count : count l.bounds.question.now.rows l.ways ≡ l.rank;
  none_lacks : (d : ℕ) → d < l.bounds.question.now.rows → IsSome (way_at l.ways d) → get_or l.bounds.question.now.row_totals.now d 0 ≤ row_seats (asked_in l.bounds) l.seats d;
}
