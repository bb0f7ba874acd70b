use Rattle.std.proofs.Common.{arith}
use Rattle.zh_sheet_text.specs.Table.{column_width}
use Rattle.zh_sheet_text.proofs.WidthLemmas.{sum_next}
use Rattle.zh_sheet_text.proofs.table.table_width.Goals as goal

pub loop-place-preserved : goal.loop-place-preserved
loop-place-preserved g c =
    let n = c.loop-place.place in
    let width = column_width (g.T.TableCells.grid c.args.cells.now) in
    record {
      so_far = omega (arith, c.loop-place.invariant.so_far, c.column_width-width.ensures.width, sum_next width n);
      few = omega (arith, c.loop-place.invariant.few, c.column_width-width.ensures.few);
    }
