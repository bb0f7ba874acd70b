use Rattle.std.proofs.Common.{rules}
use Rattle.zh_returns.proofs.count.Count.count_accepted.Goals as goal

pub returns : goal.returns
returns c = search rules
