use Rattle.std.proofs.Common.{arith}
use Rattle.std.proofs.lemmas.Grind.{common_steps}
use Rattle.zh_setups.proofs.table.values_at.Goals as goal

pub returns-then-values-most : goal.returns-then-values-most
returns-then-values-most c = grind (arith, common_steps)

pub returns-else-values-most : goal.returns-else-values-most
returns-else-values-most c = grind (arith, common_steps)
