use Rattle.zh_upper.proofs.SpreadLemmas.{IsSpread}
use Rattle.zh_upper.proofs.apportionment.spread.Given as goal

abbrev pub invariant-loop-takes_part : goal.invariant-loop-takes_part
invariant-loop-takes_part l = IsSpread l.seats l.taking l.all.items l.next l.takes_part-index
