use Rattle.std.proofs.Common.{rules}
use Rattle.zh_totals.proofs.totals.replace.Goals as goal

pub returns : goal.returns
returns c = search rules
