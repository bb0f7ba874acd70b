use Rattle.zh_totals.proofs.BoundLemmas.{AreTotals-of}
use Rattle.zh_totals.proofs.laws.totals_are_few.Goals as goal

pub returns : goal.returns
returns c = AreTotals-of
