use Rattle.std.proofs.Common.{arith}
use Rattle.std.proofs.lemmas.Grind.{common_steps}
use Rattle.zh_office.proofs.desks.Desks.hold.Goals as goal
use Rattle.zh_office.proofs.desks.Desks.hold.Goals.{in-Ok, in-Err}

pub returns-clause-answer : goal.returns-clause-answer
returns-clause-answer c = elim c.match-hold.branch [
  | in-Ok w ↦ grind (arith, common_steps)
  | in-Err w ↦ grind (arith, common_steps)
]
