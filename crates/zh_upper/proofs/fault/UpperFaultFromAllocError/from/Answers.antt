use Rattle.std.proofs.Common.{rules}
use Rattle.zh_upper.proofs.fault.UpperFaultFromAllocError.from.Goals as goal

pub returns : goal.returns
returns c = search rules
