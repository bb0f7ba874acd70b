use Rattle.std.proofs.Common.{rules}
use Rattle.zh_districts.proofs.setup.Setup.house.Goals as goal

pub returns-clause-house : goal.returns-clause-house
returns-clause-house c = search rules
