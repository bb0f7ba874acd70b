use Rattle.std.proofs.Common.{arith}
use Rattle.std.proofs.lemmas.Grind.{common_steps}
use Rattle.zh_setups.proofs.checks.first_failing.Goals as goal

pub loop-check-preserved : goal.loop-check-preserved
loop-check-preserved c = grind (arith, common_steps)
