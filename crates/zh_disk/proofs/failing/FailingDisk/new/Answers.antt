use Rattle.std.proofs.Common.{rules}
use Rattle.zh_disk.proofs.failing.FailingDisk.new.Goals as goal

pub returns : goal.returns
returns g c = search rules
