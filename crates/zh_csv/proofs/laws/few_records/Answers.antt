use Rattle.zh_csv.proofs.LoadingLemmas.{few_records}
use Rattle.zh_csv.proofs.laws.few_records.Goals as goal

pub returns : goal.returns
returns c = few_records
