use Rattle.zh_sheet_text.specs.Table.{tall_lines}
use Rattle.zh_text.proofs.CallerLemmas.{gathered-next}
use Rattle.zh_sheet_text.proofs.table.push_tall_table.Goals as goal

pub loop-place-preserved : goal.loop-place-preserved
loop-place-preserved g c =
    gathered-next (tall_lines (g.T.TableCells.grid c.args.cells.now)) c.args.out.now.items c.loop-place.out.items c.push_tall_lines.new.out.items c.loop-place.place c.loop-place.invariant c.in_ok-push_tall_lines.ensures
