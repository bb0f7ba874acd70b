use Rattle.zh_sheet.proofs.GivenLemmas.{one_result}
use Rattle.zh_sheet.proofs.laws.one_result.Goals as goal

pub returns : goal.returns
returns c = one_result
