use Rattle.std.proofs.Common.{rules}
use Rattle.zh_returns.proofs.batch.Batch.new.Goals as goal

pub returns : goal.returns
returns c = search rules
