use Rattle.std.proofs.Common.{lit≤}
use Rattle.sqlite_disk.specs.Disk.{Cut}
use Rattle.zh_disk.specs.Disk.{disk_length}
use Rattle.zh_file.proofs.LockedLemmas.{asked_leaves, cut_short, short_call}
use Rattle.zh_file.proofs.filling.take_space.Goals as goal

pub returns-in_err-set_len-clause-short : goal.returns-in_err-set_len-clause-short
returns-in_err-set_len-clause-short g c = λ short. short_call g.D.Disk _ c.args.locked.now c.set_len.new.self (Cut disk_length)
    (λ old new was cut. cut_short disk_length old new (lit≤ tt) was cut) c.in_err-set_len.ensures.call short

pub returns-in_err-write_blocks-clause-short : goal.returns-in_err-write_blocks-clause-short
returns-in_err-write_blocks-clause-short g c = λ short. c.in_err-write_blocks.ensures.short (short_call g.D.Disk _ c.args.locked.now c.set_len.new.self (Cut disk_length)
    (λ old new was cut. cut_short disk_length old new (lit≤ tt) was cut) c.in_ok-set_len.ensures.call short)

pub returns-clause-short : goal.returns-clause-short
returns-clause-short g c = λ short left here. c.in_ok-write_blocks.ensures.short (short_call g.D.Disk _ c.args.locked.now c.set_len.new.self (Cut disk_length)
    (λ old new was cut. cut_short disk_length old new (lit≤ tt) was cut) c.in_ok-set_len.ensures.call short) left
    (asked_leaves g.D.Disk c.sync.result c.write_blocks.new.locked c.sync.new.self c.sync.ensures.call left here)
