use Rattle.std.proofs.Common.{rules}
use Rattle.zh_districts.proofs.shares.first_without.Goals as goal

pub returns-then-count-eq0 : goal.returns-then-count-eq0
returns-then-count-eq0 c = search rules
