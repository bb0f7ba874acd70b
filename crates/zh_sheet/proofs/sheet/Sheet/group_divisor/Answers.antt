use Rattle.std.proofs.Common.{rules}
use Rattle.zh_sheet.proofs.sheet.Sheet.group_divisor.Goals as goal

pub returns : goal.returns
returns c = search rules
