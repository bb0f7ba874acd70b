use Rattle.csv.specs.Writing.{text_written}
use Rattle.zh_record_text.proofs.RecordLemmas.{Appends-back}
use Rattle.zh_record_text.proofs.records.close_table.Goals as goal

pub returns-in-Ok : goal.returns-in-Ok
returns-in-Ok g c under text before =
    let contents = g.W.Write.contents in
    Appends-back under (text_written contents c.args.writer) (contents c.in-Ok.writer) text before.written c.in-Ok.ensures.ok
