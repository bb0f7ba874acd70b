-- The state of a failing disk, and what each call does to it.
use Rattle.std.specs.Prelude.{◌≡◌, Bool, true, false, ℕ, zero, suc, ◌+◌, List, Option, Some, None}
use Rattle.std.specs.Prelude.{Result, is_err, IsErr}
use Rattle.zh_disk.specs.declared.disk.DiskFault.{DiskFault}
use Rattle.zh_disk.specs.declared.failing.FailingDisk.{FailingDisk}
use Rattle.zh_disk.specs.Disk.{Writes}
use Rattle.zh_disk.specs.History.{History, Counts, Call, failures_after}

-- the disk inside
abbrev pub inside : {D : Type 0} → FailingDisk D → D
inside d = d.inner

-- how many calls still pass; None once the first call that fails by design has come
abbrev pub calls_left : {D : Type 0} → FailingDisk D → Option ℕ
calls_left d = d.left

-- whether only one call fails by design
abbrev pub fails_once : {D : Type 0} → FailingDisk D → Bool
fails_once d = d.fails_once

-- how many calls have failed
abbrev pub failures_met : {D : Type 0} → FailingDisk D → ℕ
failures_met d = d.failures

-- the history of the disk inside, except for the failure count, which the failing disk keeps itself
abbrev pub failing_history : {D : Type 0} → (D → History) → FailingDisk D → History
failing_history history d = record (history (inside d)) { failures = failures_met d }

-- a new failing disk around this disk: this many calls pass, and after them only one call fails (`alone`), or every call
pub record IsFailing {D : Type 0} (disk : D) (calls : ℕ) (alone : Bool) (d : FailingDisk D) : Type 0 where
  pub inner : inside d ≡ disk
  pub left : calls_left d ≡ Some calls
  pub once : fails_once d ≡ alone
  pub failures : failures_met d ≡ 0

-- how many calls still pass after one more call: at Some 0 that call fails by design, and None follows
abbrev pub one_fewer : Option ℕ → Option ℕ
one_fewer None = None
one_fewer (Some zero) = None
one_fewer (Some (suc n)) = Some n

-- nothing has changed
abbrev pub IsSame : {D : Type 0} → D → D → Type 0
IsSame old new = new ≡ old

-- the disk got this write, whatever it answered
abbrev pub ReachesWrite : {D : Type 0} → (D → History) → ℕ → List ℕ → D → D → Type 0
ReachesWrite history at bytes old new =
    (answer : Result (Unit {0}) DiskFault) × Call is_err (Writes at bytes) (history old) (history new) answer

-- one call of a disk that counts a failure exactly if the call failed
abbrev pub IsOneCall : {D : Type 0} → (D → History) → D → D → Result (Unit {0}) DiskFault → Type 0
IsOneCall history old new result = Counts (is_err result) (history old).failures (history new).failures

-- A call of a failing disk. If it passes, the disk inside counts a failure exactly if the call failed. The first call that fails
-- by design does `last` to the disk inside. After that every call passes if the disk fails once; otherwise every call fails and
-- does nothing to the disk inside. The failing disk counts each failed call.
pub record FailsAfter {D : Type 0} (history : D → History) (last : D → D → Type 0) (old new : FailingDisk D)
    (result : Result (Unit {0}) DiskFault) : Type 0 where
  pub counts : calls_left new ≡ one_fewer (calls_left old)
  pub once : fails_once new ≡ fails_once old
  pub rises : failures_met new ≡ failures_after (failures_met old) result
  pub passes : (n : ℕ) → calls_left old ≡ Some (n + 1) → IsOneCall history (inside old) (inside new) result
  pub fails : calls_left old ≡ Some 0 → IsErr result × last (inside old) (inside new)
  pub failed : calls_left old ≡ None → fails_once old ≡ false → IsErr result × (inside new ≡ inside old)
  pub mended : calls_left old ≡ None → fails_once old ≡ true → IsOneCall history (inside old) (inside new) result
