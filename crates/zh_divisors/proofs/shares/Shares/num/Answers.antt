use Rattle.std.proofs.Common.{rules}
use Rattle.zh_divisors.proofs.shares.Shares.num.Goals as goal

pub returns : goal.returns
returns c = search rules
