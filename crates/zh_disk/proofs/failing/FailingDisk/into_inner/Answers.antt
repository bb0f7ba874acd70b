use Rattle.std.proofs.Common.{rules}
use Rattle.zh_disk.proofs.failing.FailingDisk.into_inner.Goals as goal

pub returns : goal.returns
returns g c = search rules
