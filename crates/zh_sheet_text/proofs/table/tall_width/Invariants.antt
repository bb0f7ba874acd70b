use Rattle.std.proofs.Common.{max, ◌≡◌, ◌≤◌, ℕ}
use Rattle.std.specs.List.{fold, range_with_len}
use Rattle.zh_sheet_text.specs.Table.{widest_below}
use Rattle.zh_sheet_text.proofs.table.tall_width.Given as goal

abbrev pub invariant-loop-place : goal.invariant-loop-place
invariant-loop-place g l = record {
  so_far : l.width ≡ fold (λ most (column : ℕ). max most (widest_below (g.T.TableCells.grid l.fn.cells) column)) 3 (range_with_len 1 l.place);
  few : l.width ≤ 48;
}
