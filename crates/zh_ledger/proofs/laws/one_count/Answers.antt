use Rattle.zh_ledger.proofs.StandsLemmas.{one_count}
use Rattle.zh_ledger.proofs.laws.one_count.Goals as goal

pub returns : goal.returns
returns c = one_count
