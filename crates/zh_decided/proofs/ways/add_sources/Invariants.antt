use Rattle.std.proofs.Common.{◌≡◌, ℕ, ◌<◌, None, length}
use Rattle.zh_decided.specs.Bounds.{asked_in, bounds_of}
use Rattle.zh_decided.specs.Ways.{AreSources, HasNoSource, source_at}
use Rattle.zh_decided.proofs.ways.add_sources.Given as goal

abbrev pub invariant-loop-column : goal.invariant-loop-column
invariant-loop-column l = record {
  long : length l.sources ≡ 32;
  some : AreSources (asked_in l.bounds) (bounds_of l.bounds) l.seats l.ways l.sources;
  none : (g : ℕ) → g < l.column → source_at l.sources g ≡ None → HasNoSource (asked_in l.bounds) (bounds_of l.bounds) l.seats l.ways g;
}
