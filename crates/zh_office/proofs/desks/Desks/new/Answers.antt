use Rattle.std.proofs.Common.{rules}
use Rattle.zh_office.proofs.desks.Desks.new.Goals as goal

pub returns : goal.returns
returns c = search rules
