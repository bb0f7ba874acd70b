use Rattle.std.proofs.Common.{rules}
use Rattle.zh_lower.proofs.lower.LowerFaultFromAllocError.from.Goals as goal

pub returns : goal.returns
returns c = search rules
