use Rattle.std.proofs.Common.{rules}
use Rattle.zh_returns.proofs.judgement.ReasonFromMisplaced.from.Goals as goal

pub returns-in-List : goal.returns-in-List
returns-in-List c = search rules
