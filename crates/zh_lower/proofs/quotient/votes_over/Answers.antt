use Rattle.std.proofs.Common.{rules}
use Rattle.zh_lower.proofs.quotient.votes_over.Goals as goal

pub returns-clause-rounded : goal.returns-clause-rounded
returns-clause-rounded c = search rules

pub returns-clause-half : goal.returns-clause-half
returns-clause-half c = search rules
