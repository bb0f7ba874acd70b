use Rattle.zh_ledger.proofs.NightLemmas.{law_of_commands}
use Rattle.zh_ledger.proofs.laws.nights.Goals as goal

pub returns : goal.returns
returns c = law_of_commands
