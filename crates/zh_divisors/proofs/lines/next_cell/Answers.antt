use Rattle.std.proofs.Common.{arith}
use Rattle.zh_divisors.proofs.LineSeatsLemmas.{IsNextCell-keep, IsNextCell-take}
use Rattle.zh_divisors.proofs.lines.next_cell.Goals as goal
use Rattle.zh_divisors.proofs.lines.next_cell.Goals.{then-next_is_worth_more, else-next_is_worth_more}

pub loop-j-preserved : goal.loop-j-preserved
loop-j-preserved c = elim c.if-next_is_worth_more.branch [
  | then-next_is_worth_more w ↦ grind (arith, IsNextCell-take)
  | else-next_is_worth_more w ↦ grind (arith, IsNextCell-keep)
]
