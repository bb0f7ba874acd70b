use Rattle.std.proofs.Common.{sym}
use Rattle.zh_check.proofs.CellLemmas.{stands_here}
use Rattle.zh_check.proofs.lists.stands_at.Goals as goal

pub returns : goal.returns
returns c = sym (stands_here c.args.setup.now c.args.place c.groups-groups.result c.stands.result c.groups-groups.ensures.count c.requires c.stands.ensures)
