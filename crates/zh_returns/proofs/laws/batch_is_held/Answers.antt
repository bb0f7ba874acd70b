use Rattle.zh_returns.proofs.HeldLemmas.{rows_held, accepted_held, same_held, others_held}
use Rattle.zh_returns.proofs.laws.batch_is_held.Goals as goal

pub returns-clause-rows : goal.returns-clause-rows
returns-clause-rows c = rows_held

pub returns-clause-accepted : goal.returns-clause-accepted
returns-clause-accepted c = accepted_held

pub returns-clause-same : goal.returns-clause-same
returns-clause-same c = same_held

pub returns-clause-others : goal.returns-clause-others
returns-clause-others c = others_held
