use Rattle.std.proofs.Common.{arith}
use Rattle.std.proofs.lemmas.Grind.{common_steps}
use Rattle.zh_quorum.proofs.quorum.reaches_somewhere.Goals as goal

pub returns : goal.returns
returns c = grind (arith, common_steps)

pub returns-then-reaches_quorum : goal.returns-then-reaches_quorum
returns-then-reaches_quorum c = grind (arith, common_steps)
