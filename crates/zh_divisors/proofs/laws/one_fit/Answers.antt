use Rattle.zh_divisors.proofs.DivisorLemmas.{divisor_of}
use Rattle.zh_divisors.proofs.OneFitLemmas.{only_fit, no_strict_fit, IsStrictFit-rounds}
use Rattle.zh_divisors.proofs.laws.one_fit.Goals as goal

pub returns-clause-only : goal.returns-clause-only
returns-clause-only c = only_fit

pub returns-clause-tied : goal.returns-clause-tied
returns-clause-tied c = no_strict_fit

pub returns-clause-rounded : goal.returns-clause-rounded
returns-clause-rounded c = IsStrictFit-rounds

pub returns-clause-divisor : goal.returns-clause-divisor
returns-clause-divisor c = divisor_of
