use Rattle.std.proofs.Common.{rules}
use Rattle.zh_divisors.proofs.apportionment.last_is_worth_less.Goals as goal

pub returns : goal.returns
returns c = search rules
