use Rattle.std.proofs.Common.{rules}
use Rattle.zh_commands.proofs.parser.desk_of.Goals as goal

pub returns-in-49-to-56 : goal.returns-in-49-to-56
returns-in-49-to-56 c = search rules
