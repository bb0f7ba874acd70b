use Rattle.std.proofs.Common.{◌++◌, map}
use Rattle.zh_text.specs.Each.{each_to}
use Rattle.zh_record_text.specs.Records.{record_text}
use Rattle.zh_record_text.proofs.RecordLemmas.{Written-more}
use Rattle.zh_record_text.proofs.records.write_table.Goals as goal

pub returns : goal.returns
returns g c =
    let contents = g.W.Write.contents in
    let names = record_text (map (λ column. column.now) c.args.columns.now) in
    let rows = each_to (g.T.NumberedRows.numbers c.args.rows.now) (g.T.NumberedRows.text c.args.rows.now) in
    c.close_table.ensures (contents c.args.writer) (names ++ rows) (Written-more contents (contents c.args.writer) names rows _ _ c.in_ok-writer.ensures c.in_ok-write_each.ensures)
