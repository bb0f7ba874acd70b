use Rattle.std.proofs.Common.{◌++◌, ◌≡◌, ℕ}
use Rattle.zh_text.specs.Each.{each_to}
use Rattle.zh_sheet_text.specs.Table.{column_width, on_right}
use Rattle.zh_sheet_text.proofs.table.push_cells.Given as goal

abbrev pub invariant-loop-place : goal.invariant-loop-place
invariant-loop-place g l = l.out.items
    ≡ l.fn.out.items ++ each_to l.place (λ (column : ℕ). on_right (column_width (g.T.TableCells.grid l.fn.cells) column) ((g.T.TableCells.grid l.fn.cells).cell l.fn.line column))
