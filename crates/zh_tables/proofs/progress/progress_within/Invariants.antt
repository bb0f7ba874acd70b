use Rattle.std.proofs.Common.{◌≡◌, filter}
use Rattle.std.specs.List.{range_with_len}
use Rattle.zh_tables.specs.Progress.{AreFew, is_within, progress_over}
use Rattle.zh_tables.proofs.progress.progress_within.Given as goal

abbrev pub invariant-loop-place : goal.invariant-loop-place
invariant-loop-place l = record {
  progress : l.progress ≡ progress_over l.fn.count (filter (is_within l.fn.count.canton l.fn.region) (range_with_len 1 l.place));
  few : AreFew l.place l.progress;
}
