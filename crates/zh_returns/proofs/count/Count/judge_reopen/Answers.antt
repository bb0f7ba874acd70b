use Rattle.std.proofs.Common.{rules}
use Rattle.zh_returns.proofs.count.Count.judge_reopen.Goals as goal

pub returns-then-not-closed : goal.returns-then-not-closed
returns-then-not-closed c = search rules
