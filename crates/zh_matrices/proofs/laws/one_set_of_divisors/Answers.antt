use Rattle.zh_matrices.proofs.OneSetLemmas.{differ_in_range, one_set}
use Rattle.zh_matrices.proofs.laws.one_set_of_divisors.Goals as goal

pub returns-clause-serves : goal.returns-clause-serves
returns-clause-serves c = one_set

pub returns-clause-range : goal.returns-clause-range
returns-clause-range c = differ_in_range
