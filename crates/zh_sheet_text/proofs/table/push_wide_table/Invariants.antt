use Rattle.std.proofs.Common.{◌++◌, ◌≡◌}
use Rattle.zh_text.specs.Each.{each_to}
use Rattle.zh_sheet_text.specs.Table.{wide_line}
use Rattle.zh_sheet_text.proofs.table.push_wide_table.Given as goal

abbrev pub invariant-loop-place : goal.invariant-loop-place
invariant-loop-place g l = l.out.items
    ≡ (l.fn.out.items ++ wide_line (g.T.TableCells.grid l.fn.cells) 0) ++ each_to l.place (wide_line (g.T.TableCells.grid l.fn.cells))
