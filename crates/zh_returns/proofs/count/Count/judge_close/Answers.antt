use Rattle.std.proofs.Common.{rules}
use Rattle.zh_returns.proofs.count.Count.judge_close.Goals as goal

pub returns-then-closed : goal.returns-then-closed
returns-then-closed c = search rules
