use Rattle.std.proofs.Common.{rules}
use Rattle.zh_upper.proofs.seats.Upper.den.Goals as goal

pub returns : goal.returns
returns c = search rules
