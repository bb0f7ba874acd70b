use Rattle.std.proofs.Common.{arith}
use Rattle.std.proofs.lemmas.Grind.{common_steps}
use Rattle.zh_matrices.proofs.question.Question.row.Goals as goal

pub returns-clause-votes : goal.returns-clause-votes
returns-clause-votes c = grind (arith, common_steps)
