use Rattle.zh_divisors.proofs.LineRuleLemmas.{IsLeastDivisor-is, IsGreatestDivisor-is, one_least, one_greatest}
use Rattle.zh_divisors.proofs.laws.line_rule.Goals as goal

pub returns-clause-least : goal.returns-clause-least
returns-clause-least c = IsLeastDivisor-is

pub returns-clause-greatest : goal.returns-clause-greatest
returns-clause-greatest c = IsGreatestDivisor-is

pub returns-clause-one_least : goal.returns-clause-one_least
returns-clause-one_least c = one_least

pub returns-clause-one_greatest : goal.returns-clause-one_greatest
returns-clause-one_greatest c = one_greatest
