use Rattle.std.proofs.Common.{rules}
use Rattle.zh_divisors.proofs.lines.greatest_below.Goals as goal

pub returns : goal.returns
returns c = search rules
