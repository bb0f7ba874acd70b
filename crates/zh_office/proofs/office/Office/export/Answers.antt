use Rattle.std.proofs.Common.{rules}
use Rattle.zh_office.proofs.office.Office.export.Goals as goal

pub returns : goal.returns
returns g c = search rules
