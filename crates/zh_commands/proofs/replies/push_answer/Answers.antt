use Rattle.std.proofs.Common.{arith}
use Rattle.std.proofs.lemmas.Grind.{common_steps}
use Rattle.zh_commands.proofs.replies.push_answer.Goals as goal

pub returns-in-Shows-clause-answer : goal.returns-in-Shows-clause-answer
returns-in-Shows-clause-answer c = grind (arith, common_steps)
