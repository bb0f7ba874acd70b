use Rattle.std.proofs.Common.{◌≡◌, ◌<◌, ℕ, length, map, take}
use Rattle.std.specs.List.{IsDistinct, list_any}
use Rattle.std.specs.Ordering.{eq_by_cmp}
use Rattle.zh_returns.specs.KeySet.{AreBlocks, has_mark}
use Rattle.zh_returns.specs.RowBytes.{rows_in}
use Rattle.zh_returns.specs.Rows.{row_key}
use Rattle.zh_returns.specs.Keys.{key_cmp}
use Rattle.zh_returns.proofs.row_checks.have_own_keys.Given as goal

abbrev pub invariant-loop-i : goal.invariant-loop-i
invariant-loop-i l = record {
  blocks : length l.blocks ≡ 65536;
  marks : length l.marks ≡ 32000;
  set : AreBlocks l.blocks l.marks l.i;
  keys : (m n : ℕ) → n < 256 → has_mark l.blocks l.marks m n ≡ list_any (eq_by_cmp key_cmp (m, n)) (map row_key (take l.i (rows_in l.bytes)));
  distinct : IsDistinct (eq_by_cmp key_cmp) (map row_key (take l.i (rows_in l.bytes)));
}
