use Rattle.std.proofs.Common.{[], ◌++◌, ◌∷◌, ◌≡◌}
use Rattle.zh_text.specs.Each.{each_to}
use Rattle.zh_sheet_text.specs.Table.{field_line, on_left, on_right, tall_width}
use Rattle.zh_sheet_text.proofs.table.push_tall_lines.Given as goal

abbrev pub invariant-loop-place : goal.invariant-loop-place
invariant-loop-place g l =
    let grid = g.T.TableCells.grid l.fn.cells in
    l.out.items ≡ (l.fn.out.items ++ (on_left 42 (grid.cell l.fn.line 0) ++ on_right (tall_width grid) (grid.cell l.fn.line grid.columns) ++ 10 ∷ [])) ++ each_to l.place (field_line grid l.fn.line)
