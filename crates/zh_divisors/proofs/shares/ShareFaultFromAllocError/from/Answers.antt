use Rattle.std.proofs.Common.{rules}
use Rattle.zh_divisors.proofs.shares.ShareFaultFromAllocError.from.Goals as goal

pub returns : goal.returns
returns c = search rules
