use Rattle.std.proofs.Common.{rules}
use Rattle.zh_office.proofs.service.ServeFaultFromWriteFault.from.Goals as goal

pub returns : goal.returns
returns c = search rules
