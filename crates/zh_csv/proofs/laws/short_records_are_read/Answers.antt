use Rattle.zh_csv.proofs.CutLemmas.{all_read, all_whole}
use Rattle.zh_csv.proofs.laws.short_records_are_read.Goals as goal

pub returns : goal.returns
returns c text records short = (all_read text records short, all_whole text records short)
