use Rattle.zh_csv.proofs.HoldingLemmas.{one_holding}
use Rattle.zh_csv.proofs.laws.one_holding.Goals as goal

pub returns : goal.returns
returns c = one_holding
