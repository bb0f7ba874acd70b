use Rattle.std.proofs.Common.{sum_by, ◌*◌, ◌+◌, ◌≡◌, ◌≤◌}
use Rattle.std.specs.List.{range_with_len}
use Rattle.zh_sheet_text.specs.Table.{column_width, widest}
use Rattle.zh_sheet_text.proofs.table.table_width.Given as goal

abbrev pub invariant-loop-place : goal.invariant-loop-place
invariant-loop-place g l = record {
  so_far : l.width ≡ widest (g.T.TableCells.grid l.fn.cells) 0 + sum_by (column_width (g.T.TableCells.grid l.fn.cells)) (range_with_len 1 l.place);
  few : l.width ≤ 48 + 50 * l.place;
}
