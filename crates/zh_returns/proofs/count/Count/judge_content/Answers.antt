use Rattle.std.proofs.Common.{rules}
use Rattle.zh_returns.proofs.count.Count.judge_content.Goals as goal

pub returns-then-closed : goal.returns-then-closed
returns-then-closed c = search rules

pub returns-then-is_some_and : goal.returns-then-is_some_and
returns-then-is_some_and c = search rules
