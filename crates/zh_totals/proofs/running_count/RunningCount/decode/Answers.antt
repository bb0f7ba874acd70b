use Rattle.std.proofs.Common.{rules}
use Rattle.zh_totals.proofs.running_count.RunningCount.decode.Goals as goal

pub invariant_of-self : goal.invariant_of-self
invariant_of-self c = search rules
