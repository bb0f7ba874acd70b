use Rattle.std.proofs.Common.{◌∙◌, codes}
use Rattle.clap.specs.Words.{found_of, rows_of}
use Rattle.clap.proofs.WalkLemmas.{first_value-rows}
use Rattle.zh_arguments.proofs.TableLemmas.{no_part, table_read}
use Rattle.zh_arguments.proofs.table.table_in.Goals as goal

pub returns-in_err-part : goal.returns-in_err-part
returns-in_err-part c =
    let found = found_of c.args.given.now in
    no_part (rows_of found) _ _ c.from_residual.result (c.get_str.ensures ∙ first_value-rows found (codes "municipality"))
    (c.get_str-2.ensures ∙ first_value-rows found (codes "constituency")) c.in_err-part.ensures c.from_residual.ensures

pub returns : goal.returns
returns c =
    let found = found_of c.args.given.now in
    table_read (rows_of found) _ _ c.path_in.result.now c.in_ok-part.part c.table_named.result
    (c.get_str.ensures ∙ first_value-rows found (codes "municipality"))
    (c.get_str-2.ensures ∙ first_value-rows found (codes "constituency")) c.path_in.ensures c.in_ok-part.ensures c.table_named.ensures
