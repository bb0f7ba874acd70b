use Rattle.std.proofs.Common.{◌≡◌, ◌*◌, ◌++◌, take, length, Result, Ok, is_err}
use Rattle.zh_disk.specs.declared.disk.DiskFault.{DiskFault}
use Rattle.zh_disk.specs.Disk.{Changes}
use Rattle.zh_disk.specs.History.{Call}
use Rattle.zh_journal.specs.Calls.{IsLater}
use Rattle.zh_journal.specs.Pages.{SameButBodies, bodies, record_bytes, zero_bytes, pages_of}
use Rattle.zh_journal.proofs.record.stage.Given as goal

abbrev pub invariant-loop-i : goal.invariant-loop-i
invariant-loop-i g l = record {
  so_far : Call {A = Result (Unit {0}) DiskFault} is_err
      (λ answer old new. Changes (SameButBodies l.at (pages_of (length l.payload)))
      (λ before now. bodies l.i now.bytes l.at ≡ take (255 * l.i) (record_bytes l.payload ++ zero_bytes 255)) answer old new × IsLater l.i old new)
      (g.D.Disk.history l.initial.disk) (g.D.Disk.history l.disk) (Ok tt);
}
