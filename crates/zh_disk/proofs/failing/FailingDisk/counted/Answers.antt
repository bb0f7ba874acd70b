use Rattle.std.proofs.Common.{rules}
use Rattle.zh_disk.proofs.failing.FailingDisk.counted.Goals as goal

pub returns-then-is_err-clause-counts : goal.returns-then-is_err-clause-counts
returns-then-is_err-clause-counts g c = search rules
