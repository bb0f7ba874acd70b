use Rattle.zh_sheet.proofs.GivenLemmas.{made_given}
use Rattle.zh_sheet.proofs.laws.made_is_given.Goals as goal

pub returns : goal.returns
returns c = made_given
