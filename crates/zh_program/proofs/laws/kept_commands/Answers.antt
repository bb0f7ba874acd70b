use Rattle.zh_program.proofs.KeptLemmas.{keeps_all}
use Rattle.zh_program.proofs.laws.kept_commands.Goals as goal

pub returns : goal.returns
returns c = keeps_all
