use Rattle.std.proofs.Common.{rules}
use Rattle.zh_arguments.proofs.rules.flag.Goals as goal

pub returns : goal.returns
returns c = (search rules, search rules)
