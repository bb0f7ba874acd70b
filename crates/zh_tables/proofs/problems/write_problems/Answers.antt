use Rattle.std.proofs.Common.{◌++◌}
use Rattle.zh_record_text.specs.Records.{record_text}
use Rattle.zh_record_text.proofs.CallerLemmas.{Written-more}
use Rattle.zh_tables.specs.Tables.{header, problem_rows}
use Rattle.zh_tables.specs.declared.tables.Table.TheVariants.{Problems}
use Rattle.zh_tables.proofs.problems.write_problems.Goals as goal

pub returns : goal.returns
returns g c =
    let under = g.W.Write.contents c.args.writer in
    let names = record_text (header Problems) in
    let rows = problem_rows c.args.setup.now c.args.problems.now in
    c.close_table.ensures under (names ++ rows) (Written-more g.W.Write.contents under names rows _ _ c.in_ok-writer.ensures c.in_ok-write_each_problem.ensures)
