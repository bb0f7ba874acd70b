use Rattle.std.proofs.Common.{arith}
use Rattle.std.proofs.lemmas.Grind.{common_steps}
use Rattle.zh_commands.proofs.parser.numbered_request.Goals as goal

pub returns-in_ok-municipality-in-show : goal.returns-in_ok-municipality-in-show
returns-in_ok-municipality-in-show c = grind (arith, common_steps)
