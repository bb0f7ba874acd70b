use Rattle.std.proofs.Common.{rules}
use Rattle.zh_divisors.proofs.lines.hold.Goals as goal

pub returns : goal.returns
returns c = search rules
