use Rattle.std.proofs.Common.{rules}
use Rattle.zh_sheet_text.proofs.line.finality.Goals as goal

pub returns-then-is_final-clause-word : goal.returns-then-is_final-clause-word
returns-then-is_final-clause-word c = search rules

pub returns-else-is_final-clause-word : goal.returns-else-is_final-clause-word
returns-else-is_final-clause-word c = search rules
