use Rattle.zh_sheet.proofs.OneSheetLemmas.{same_distribution}
use Rattle.zh_sheet.proofs.laws.one_sheet.Goals as goal

pub returns : goal.returns
returns c = same_distribution
