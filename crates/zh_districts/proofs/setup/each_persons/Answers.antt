use Rattle.std.proofs.Common.{rules}
use Rattle.zh_districts.proofs.setup.each_persons.Goals as goal

pub returns : goal.returns
returns c = search rules
