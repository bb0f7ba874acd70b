use Rattle.std.proofs.Common.{rules}
use Rattle.zh_arguments.proofs.rules.argument.Goals as goal

pub returns : goal.returns
returns c = (search rules, search rules)
