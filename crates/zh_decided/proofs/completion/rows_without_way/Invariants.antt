use Rattle.std.proofs.Common.{◌≡◌, ℕ, ◌<◌, is_none, length}
use Rattle.zh_decided.specs.Impossible.{is_among}
use Rattle.zh_decided.specs.Ways.{way_at}
use Rattle.zh_decided.proofs.completion.rows_without_way.Given as goal

abbrev pub invariant-loop-row : goal.invariant-loop-row
invariant-loop-row l = record {
  long : length l.marks ≡ 32;
  done : (d : ℕ) → d < l.row → is_among l.marks d ≡ is_none (way_at l.ways d);
}
