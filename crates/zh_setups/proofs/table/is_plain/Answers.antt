use Rattle.std.proofs.Common.{rules}
use Rattle.zh_setups.proofs.table.is_plain.Goals as goal

pub returns : goal.returns
returns c = search rules

pub returns-then-name-eq32 : goal.returns-then-name-eq32
returns-then-name-eq32 c = search rules
