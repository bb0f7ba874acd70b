use Rattle.std.proofs.Common.{rules}
use Rattle.zh_divisors.proofs.lines.least_above.Goals as goal

pub returns : goal.returns
returns c = search rules
