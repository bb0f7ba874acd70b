use Rattle.std.proofs.Common.{rules}
use Rattle.zh_disk.proofs.failing.FailingDisk.once.Goals as goal

pub returns : goal.returns
returns g c = search rules
