use Rattle.std.proofs.Common.{rules}
use Rattle.zh_text.proofs.numbers.is_plain.Goals as goal

pub returns-in-49-to-57 : goal.returns-in-49-to-57
returns-in-49-to-57 c = search rules
