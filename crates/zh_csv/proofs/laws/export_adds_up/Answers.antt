use Rattle.std.proofs.Common.{length}
use Rattle.zh_csv.proofs.ExportRowsLemmas.{export_rows}
use Rattle.zh_csv.proofs.ExportSumsLemmas.{export_adds_up}
use Rattle.zh_csv.proofs.laws.export_adds_up.Goals as goal

pub returns : goal.returns
returns c = λ tally limits. (length (export_rows tally), export_adds_up tally limits)
