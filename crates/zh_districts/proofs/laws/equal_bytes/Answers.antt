use Rattle.zh_districts.proofs.OneSpellingLemmas.{same_setup}
use Rattle.zh_districts.proofs.laws.equal_bytes.Goals as goal

pub returns : goal.returns
returns c = same_setup
