use Rattle.zh_csv.proofs.FewRowsLemmas.{few_rows}
use Rattle.zh_csv.proofs.laws.few_rows.Goals as goal

pub returns : goal.returns
returns c = few_rows
