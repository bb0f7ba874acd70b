use Rattle.zh_office.proofs.NightLemmas.{law}
use Rattle.zh_office.proofs.laws.law_nights.Goals as goal

pub returns : goal.returns
returns c = law
