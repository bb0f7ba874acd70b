use Rattle.std.proofs.Common.{rules}
use Rattle.zh_commands.proofs.parser.lone_request.Goals as goal

pub returns-in-drop : goal.returns-in-drop
returns-in-drop c = search rules

pub returns-in-sheet : goal.returns-in-sheet
returns-in-sheet c = search rules
