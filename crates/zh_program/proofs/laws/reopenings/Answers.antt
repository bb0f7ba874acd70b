use Rattle.zh_program.proofs.OpensLemmas.{no_cause, reopens}
use Rattle.zh_program.proofs.laws.reopenings.Goals as goal

pub returns-clause-ends : goal.returns-clause-ends
returns-clause-ends c = λ count result old new to opens. reopens count result old new to opens

pub returns-clause-causes : goal.returns-clause-causes
returns-clause-causes c = λ count image fault to cause. no_cause count image fault to cause
