use Rattle.zh_returns.proofs.CommandLemmas.{command_once}
use Rattle.zh_returns.proofs.laws.one_command.Goals as goal

abbrev pub returns : goal.returns
returns c = command_once
