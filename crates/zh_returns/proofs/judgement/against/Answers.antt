use Rattle.std.proofs.Common.{rules}
use Rattle.zh_returns.proofs.judgement.against.Goals as goal

pub returns-in-Some-2 : goal.returns-in-Some-2
returns-in-Some-2 c = search rules

pub returns-in-Some-3 : goal.returns-in-Some-3
returns-in-Some-3 c = search rules

pub returns-in-Some-4 : goal.returns-in-Some-4
returns-in-Some-4 c = search rules

pub returns-in-Some : goal.returns-in-Some
returns-in-Some c = search rules
