-- The state of a disk that fails once, and what each call does to it.
use Rattle.std.specs.Prelude.{◌≡◌, ◌≢◌, ℕ, Option, Some, Result, IsErr}
use Rattle.zh_disk.specs.declared.disk.DiskFault.{DiskFault}
use Rattle.zh_disk.specs.declared.disk.Disk.{Ghosts}
use Rattle.zh_disk.specs.declared.failing.OnceDisk.{OnceDisk}
use Rattle.zh_disk.specs.History.{History, failures_after}
use Rattle.zh_disk.specs.Failing.{inside, calls_left, failures_met, failing_history, one_fewer, IsOneCall}

module _ {D : Type 0} {g : Ghosts D} where
  -- the disk inside
  abbrev pub disk_inside : OnceDisk D g → D
  disk_inside d = inside d.failing

  -- how many calls pass before the one that fails by design; None once that has failed
  abbrev pub calls_before : OnceDisk D g → Option ℕ
  calls_before d = calls_left d.failing

  -- how many calls have failed
  abbrev pub once_failures : OnceDisk D g → ℕ
  once_failures d = failures_met d.failing

  -- the history of the disk inside, except for the failure count, which this disk keeps itself
  abbrev pub once_history : OnceDisk D g → History
  once_history d = failing_history g.history d.failing

  -- A call of a disk that fails once. The one call that fails by design does `last` to the disk inside. At every other call the
  -- disk inside counts a failure exactly if the call failed. This disk counts each failed call.
  pub record FailsOnce (last : D → D → Type 0) (old new : OnceDisk D g) (result : Result (Unit {0}) DiskFault) : Type 0 where
    pub counts : calls_before new ≡ one_fewer (calls_before old)
    pub rises : once_failures new ≡ failures_after (once_failures old) result
    pub fails : calls_before old ≡ Some 0 → IsErr result × last (disk_inside old) (disk_inside new)
    pub passes : calls_before old ≢ Some 0 → IsOneCall g.history (disk_inside old) (disk_inside new) result
