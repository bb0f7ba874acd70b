use Rattle.std.proofs.Common.{rules}
use Rattle.zh_totals.proofs.totals.Totals.of.Goals as goal

pub returns : goal.returns
returns c = search rules
