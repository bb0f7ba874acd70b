use Rattle.std.proofs.Common.{rules}
use Rattle.zh_disk.proofs.failing.FailingDiskDisk.write_at.Goals as goal

pub returns-in-Some-eq0-clause-failing : goal.returns-in-Some-eq0-clause-failing
returns-in-Some-eq0-clause-failing g c = search rules
