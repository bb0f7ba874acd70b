use Rattle.zh_decided.proofs.ImpossibleLemmas.{no_divisors, no_matrix}
use Rattle.zh_decided.proofs.laws.impossible_totals.Goals as goal

pub returns-clause-no_matrix : goal.returns-clause-no_matrix
returns-clause-no_matrix c = no_matrix

pub returns-clause-no_divisors : goal.returns-clause-no_divisors
returns-clause-no_divisors c = no_divisors
