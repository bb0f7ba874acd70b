use Rattle.std.proofs.Common.{rules}
use Rattle.zh_totals.proofs.totals.Totals.copy.Goals as goal

pub invariant_of-result : goal.invariant_of-result
invariant_of-result c = search rules

pub returns : goal.returns
returns c = search rules
