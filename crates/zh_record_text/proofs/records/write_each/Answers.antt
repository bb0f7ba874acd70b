use Rattle.zh_record_text.proofs.EachLemmas.{Puts-next}
use Rattle.zh_record_text.proofs.RecordLemmas.{Puts-none}
use Rattle.zh_record_text.proofs.records.write_each.Goals as goal

pub loop-place-init : goal.loop-place-init
loop-place-init g c = Puts-none g.W.Write.contents c.args.writer.now c.requires.ready

pub loop-place-preserved : goal.loop-place-preserved
loop-place-preserved g c =
    Puts-next g.W.Write.contents (g.T.NumberedRows.text c.args.rows.now) c.loop-place.place c.args.writer.now c.loop-place.writer c.write_row.new.writer c.loop-place.invariant c.in_ok-write_row.ensures
