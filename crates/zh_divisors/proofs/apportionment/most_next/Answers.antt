use Rattle.std.proofs.Common.{arith}
use Rattle.zh_divisors.proofs.WorthLemmas.{IsMostNext-keep, IsMostNext-take}
use Rattle.zh_divisors.proofs.apportionment.most_next.Goals as goal
use Rattle.zh_divisors.proofs.apportionment.most_next.Goals.{then-next_is_worth_more, else-next_is_worth_more}

pub loop-j-preserved : goal.loop-j-preserved
loop-j-preserved c = elim c.if-next_is_worth_more.branch [
  | then-next_is_worth_more w ↦ grind (arith, IsMostNext-take)
  | else-next_is_worth_more w ↦ grind (arith, IsMostNext-keep)
]
