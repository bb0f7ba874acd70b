use Rattle.std.proofs.Common.{map}
use Rattle.std.specs.Io.KnownBytes.{append_known}
use Rattle.zh_record_text.specs.Records.{record_text}
use Rattle.zh_record_text.proofs.RecordLemmas.{Written-first}
use Rattle.zh_record_text.proofs.records.open_table.Goals as goal

pub returns : goal.returns
returns g c =
    let contents = g.W.Write.contents in
    let from = c.from_writer-writer.ensures in
    Written-first contents (record_text (map (λ column. column.now) c.args.columns.now)) (contents c.args.writer) _ _ (λ i. append_known (contents (from.wtr i)) (from.empty i)) c.in_ok-write_names.ensures
