use Rattle.zh_program.proofs.WorldLemmas.{begins_there, left_there}
use Rattle.zh_program.proofs.on_disk.disk_at.Goals as goal

pub returns-in-Format-clause-begins : goal.returns-in-Format-clause-begins
returns-in-Format-clause-begins g c = rw c.in-Format.is c.disk_or_make.ensures.begins

pub returns-in_default-clause-begins : goal.returns-in_default-clause-begins
returns-in_default-clause-begins g c =
    begins_there g.F.Disk.Disk c.args.work c.in_default.not-Format (g.F.Files.disk_at c.args.files.now c.args.path.now) c.disk.result c.disk.ensures.begins

pub returns-in-Format-clause-leaves : goal.returns-in-Format-clause-leaves
returns-in-Format-clause-leaves g c = rw c.in-Format.is c.disk_or_make.ensures.leaves

pub returns-in_default-clause-leaves : goal.returns-in_default-clause-leaves
returns-in_default-clause-leaves g c = left_there c.args.work c.in_default.not-Format _ _ _ c.disk.ensures.leaves
