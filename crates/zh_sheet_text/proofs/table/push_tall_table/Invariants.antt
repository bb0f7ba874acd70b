use Rattle.std.proofs.Common.{◌++◌, ◌≡◌}
use Rattle.zh_text.specs.Each.{each_to}
use Rattle.zh_sheet_text.specs.Table.{tall_lines}
use Rattle.zh_sheet_text.proofs.table.push_tall_table.Given as goal

abbrev pub invariant-loop-place : goal.invariant-loop-place
invariant-loop-place g l = l.out.items ≡ l.fn.out.items ++ each_to l.place (tall_lines (g.T.TableCells.grid l.fn.cells))
