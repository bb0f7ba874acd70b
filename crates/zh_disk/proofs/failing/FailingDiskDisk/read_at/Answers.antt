use Rattle.std.proofs.Common.{rules}
use Rattle.zh_disk.proofs.failing.FailingDiskDisk.read_at.Goals as goal

pub returns-in_default-clause-failing : goal.returns-in_default-clause-failing
returns-in_default-clause-failing g c = search rules
