use Rattle.std.proofs.Common.{List, ℕ, ◌++◌, IfOk, length, subst}
use Rattle.std.specs.Io.KnownBytes.{Appends}
use Rattle.zh_text.specs.Each.{each_to}
use Rattle.zh_csv.specs.Export.{municipality_text}
use Rattle.zh_csv.specs.Records.{names}
use Rattle.zh_csv.proofs.ExportLemmas.{names_plain, row_text-plain}
use Rattle.zh_csv.proofs.export.write_count.Goals as goal

pub returns : goal.returns
returns g c =
    let contents = g.W.Write.contents in
    let tally = c.args.count.now in
    let rows = each_to (length tally.canton.municipalities) (municipality_text tally) in
    subst (λ (first : List ℕ). IfOk c.write_table.result (λ after. Appends (contents c.args.writer) (contents after) (first ++ rows))) (row_text-plain names names_plain) c.write_table.ensures
