use Rattle.std.proofs.Common.{ap, ◌++◌, ◌+◌, ◌∙◌, List, ℕ}
use Rattle.zh_sheet_text.specs.Table.{column_width, on_right}
use Rattle.zh_text.proofs.CallerLemmas.{gathered-next}
use Rattle.zh_sheet_text.proofs.table.push_cells.Goals as goal

pub loop-place-preserved : goal.loop-place-preserved
loop-place-preserved g c =
    let n = c.loop-place.place in
    let grid = g.T.TableCells.grid c.args.cells.now in
    let old = c.loop-place.out.items in
    gathered-next (λ (column : ℕ). on_right (column_width grid column) (grid.cell c.args.line column)) c.args.out.now.items old c.push_right.new.out.items n c.loop-place.invariant
    (c.in_ok-push_right.ensures ∙ ap (λ (text : List ℕ). old ++ on_right c.column_width-width.result text) (c.deref.ensures.0 ∙ c.cell.ensures)
    ∙ ap (λ (width : ℕ). old ++ on_right width (grid.cell c.args.line (n + 1))) c.column_width-width.ensures.width)
