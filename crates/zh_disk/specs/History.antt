-- What is known of a disk, and how a call changes it.
use Rattle.std.specs.Prelude.{◌≡◌, ◌<◌, ◌≤◌, ◌+◌, ◌-◌, ◌^◌, ◌⊎◌, ℕ, min, Bool, true, false, IsTrue, Result, Ok, Err}
use Rattle.zh_disk.specs.declared.disk.DiskFault.{DiskFault}
use Rattle.zh_disk.specs.Disk.{Trail}

-- whether the disk is honest (no answer so far contradicts the trail), its failure count, and its trail
pub record History : Type 0 where
  pub honest : Bool
  pub failures : ℕ
  pub trail : Trail

-- the count rose, or it is at its maximum, which counts as risen
abbrev pub HasRisen : ℕ → ℕ → Type 0
HasRisen before now = (before < now) ⊎ (2 ^ 64 - 1 ≤ now)

-- The failure count before and after a call: it rose if the device failed, and otherwise it is the same.
pub record Counts (failed : Bool) (before now : ℕ) : Type 0 where
  pub later : before ≤ now
  pub rose : failed ≡ true → HasRisen before now
  pub same : failed ≡ false → now ≡ before

-- the failure count after one call of a disk that counts each failure: one more if the call failed, up to the maximum
abbrev pub failures_after : ℕ → Result (Unit {0}) DiskFault → ℕ
failures_after before (Ok done) = before
failures_after before (Err e) = min (before + 1) (2 ^ 64 - 1)

-- A call over a disk, whatever it answers. `fails` says which answers are faults of the device. If the disk is honest after
-- the call, it was honest before, and the call did `does` to the trail.
pub record Call {A : Type 0} (fails : A → Bool) (does : A → Trail → Trail → Type 0)
    (old new : History) (answer : A) : Type 0 where
  pub kept : IsTrue new.honest → IsTrue old.honest
  pub did : IsTrue new.honest → does answer old.trail new.trail
  pub counts : Counts (fails answer) old.failures new.failures
