use Rattle.zh_csv.proofs.LoadingLemmas.{one_loading}
use Rattle.zh_csv.proofs.laws.one_loading.Goals as goal

pub returns : goal.returns
returns c = one_loading
