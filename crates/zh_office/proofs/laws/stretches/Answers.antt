use Rattle.zh_office.proofs.LoggedLemmas.{run_is_logged}
use Rattle.zh_office.proofs.laws.stretches.Goals as goal

pub returns : goal.returns
returns c = run_is_logged
