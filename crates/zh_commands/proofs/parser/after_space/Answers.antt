use Rattle.std.proofs.Common.{arith}
use Rattle.std.proofs.lemmas.Grind.{common_steps}
use Rattle.zh_commands.proofs.parser.after_space.Goals as goal

pub returns-in-32 : goal.returns-in-32
returns-in-32 c = grind (arith, common_steps)
