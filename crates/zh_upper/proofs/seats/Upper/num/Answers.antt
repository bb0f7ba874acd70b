use Rattle.std.proofs.Common.{rules}
use Rattle.zh_upper.proofs.seats.Upper.num.Goals as goal

pub returns : goal.returns
returns c = search rules
