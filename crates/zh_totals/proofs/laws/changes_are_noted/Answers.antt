use Rattle.zh_totals.proofs.ChangeLemmas.{entry_noted}
use Rattle.zh_totals.proofs.CommandLemmas.{command_noted}
use Rattle.zh_totals.proofs.laws.changes_are_noted.Goals as goal

pub returns-clause-command : goal.returns-clause-command
returns-clause-command c = command_noted

pub returns-clause-entry : goal.returns-clause-entry
returns-clause-entry c = entry_noted
