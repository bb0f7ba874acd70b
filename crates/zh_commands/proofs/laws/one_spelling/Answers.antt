use Rattle.zh_commands.proofs.LineLemmas.{spelling_injective, length-spelling}
use Rattle.zh_commands.proofs.laws.one_spelling.Goals as goal

pub returns-clause-same : goal.returns-clause-same
returns-clause-same c = spelling_injective

pub returns-clause-short : goal.returns-clause-short
returns-clause-short c = length-spelling
