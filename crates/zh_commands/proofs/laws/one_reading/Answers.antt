use Rattle.zh_commands.proofs.LineLemmas.{reading_same}
use Rattle.zh_commands.proofs.laws.one_reading.Goals as goal

pub returns : goal.returns
returns c = reading_same
