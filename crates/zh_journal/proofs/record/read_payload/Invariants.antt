use Rattle.std.proofs.Common.{◌≡◌, ◌<◌, ◌+◌, ◌*◌, ◌/◌, ℕ, Result, Ok, is_err}
use Rattle.std.specs.Prelude.{slice_index}
use Rattle.zh_disk.specs.declared.disk.DiskFault.{DiskFault}
use Rattle.zh_disk.specs.Disk.{Asks}
use Rattle.zh_disk.specs.History.{Call}
use Rattle.zh_journal.proofs.record.read_payload.Given as goal

abbrev pub invariant-loop-i : goal.invariant-loop-i
invariant-loop-i g l = record {
  so_far : Call {A = Result (Unit {0}) DiskFault} is_err
      (Asks (λ bytes answer. (k : ℕ) → k + 3 < 255 * l.i → k < l.len → slice_index l.buffer k ≡ slice_index bytes (l.at + 4 + k + (k + 3) / 255)))
      (g.D.Disk.history l.initial.disk) (g.D.Disk.history l.disk) (Ok tt);
}
