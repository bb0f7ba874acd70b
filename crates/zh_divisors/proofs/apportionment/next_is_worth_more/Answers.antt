use Rattle.std.proofs.Common.{rules}
use Rattle.zh_divisors.proofs.apportionment.next_is_worth_more.Goals as goal

pub returns : goal.returns
returns c = search rules
