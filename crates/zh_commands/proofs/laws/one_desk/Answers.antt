use Rattle.zh_commands.proofs.LineLemmas.{desk_of-read}
use Rattle.zh_commands.proofs.laws.one_desk.Goals as goal

pub returns : goal.returns
returns c = desk_of-read
