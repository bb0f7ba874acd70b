use Rattle.std.proofs.Common.{◌≡◌, ◌≤◌, ◌+◌, ◌-◌, length, take, Result, Ok, is_err}
use Rattle.std.specs.Prelude.{slice_range}
use Rattle.zh_disk.specs.declared.disk.DiskFault.{DiskFault}
use Rattle.zh_disk.specs.Disk.{Asks}
use Rattle.zh_disk.specs.History.{Call}
use Rattle.zh_snapshot.proofs.store.stand_at.Given as goal

abbrev pub invariant-loop-compared : goal.invariant-loop-compared
invariant-loop-compared g l = record {
  inside : l.compared ≤ length l.bytes;
  so_far : Call {A = Result (Unit {0}) DiskFault} is_err (Asks (λ stored answer. slice_range stored l.at (l.at + l.compared) ≡ take l.compared l.bytes))
      (g.D.Disk.history l.initial.disk) (g.D.Disk.history l.disk) (Ok tt);
}

abbrev pub decreases-loop-compared : goal.decreases-loop-compared
decreases-loop-compared g l = length l.bytes - l.compared
