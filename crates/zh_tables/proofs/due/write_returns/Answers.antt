use Rattle.std.proofs.Common.{◌++◌}
use Rattle.std.specs.List.{flat_map}
use Rattle.zh_record_text.specs.Records.{record_text}
use Rattle.zh_record_text.proofs.CallerLemmas.{Written-more}
use Rattle.zh_tables.specs.Returns.{return_columns, return_row}
use Rattle.zh_tables.proofs.due.write_returns.Goals as goal

pub returns : goal.returns
returns g c =
    let under = g.W.Write.contents c.args.writer in
    let names = record_text return_columns in
    let rows = flat_map return_row c.args.returns.now in
    c.close_table.ensures under (names ++ rows) (Written-more g.W.Write.contents under names rows _ _ c.in_ok-writer.ensures c.in_ok-write_each_return.ensures)
