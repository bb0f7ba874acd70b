use Rattle.std.proofs.Common.{rules}
use Rattle.zh_returns.proofs.row.read_row.Goals as goal

pub returns-else-row-eq0 : goal.returns-else-row-eq0
returns-else-row-eq0 c = record { read = search rules; refused = tt }
