use Rattle.std.proofs.Common.{rules}
use Rattle.zh_upper.proofs.voter_sums.voter_number.Goals as goal

pub returns-clause-formula : goal.returns-clause-formula
returns-clause-formula c = search rules
