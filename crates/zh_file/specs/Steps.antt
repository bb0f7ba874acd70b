-- What each step of an opening leaves for the next ones.
use Rattle.std.specs.Prelude.{◌≡◌, ◌≢◌, ◌⊎◌, ◌<◌, ◌≤◌, ◌+◌, ℕ, List, [], Bool, IsTrue, Result, IfOk, IfErr, length}
use Rattle.zh_disk.specs.Disk.{disk_length}
use Rattle.zh_file.specs.Failures.{FailedCall, FailsBetween}
use Rattle.zh_file.specs.Places.{Places, companion_of, found_at}
use Rattle.zh_file.specs.Places.Standing.{file, nothing}
use Rattle.zh_file.specs.Folder.{Folders, MakesBoth}
use Rattle.zh_file.specs.Opening.{IsNoFile}
use Rattle.zh_file.specs.Causes.{IsCauseAt, IsLength}
use Rattle.zh_file.specs.declared.fault.FileCause.{FileCause}
use Rattle.zh_file.specs.declared.fault.FileCause.TheVariants as causes
use Rattle.zh_file.specs.declared.fault.FileFault.{FileFault}
use Rattle.zh_file.specs.declared.fault.FileFault.TheVariants as faults

-- no lock was refused, and the number of failed calls did not fall
pub record GoesAhead (old new : Folders) : Type 0 where
  pub failed : old.failed ≤ new.failed
  pub refused : new.refused ≡ old.refused

-- why a file could not be measured: a call failed, or what is there is not a file
abbrev pub IsUnmeasured : List ℕ → Folders → Folders → FileFault → Type 0
IsUnmeasured path old new faults.Memory = Unit {0}
IsUnmeasured path old new (faults.Device cause) =
    IsCauseAt (found_at old.places path) cause × ((old.failed < new.failed) ⊎ IsNoFile (found_at old.places path))
IsUnmeasured path old new fault = ⊥

-- the file at this path was measured, or not
pub record Measures (path : List ℕ) (result : Result ℕ FileFault) (old new : Folders) : Type 0 where
  pub same : new.places ≡ old.places
  pub goes : GoesAhead old new
  pub length : IfOk result (IsLength (found_at old.places path))
  pub cause : IfErr result (IsUnmeasured path old new)

-- an empty companion was removed, or not
pub record ClearsCompanion (path : List ℕ) (old new : Places) : Type 0 where
  pub leads : new.leads ≡ old.leads
  pub companion : (new.stands (companion_of old path) ≡ old.stands (companion_of old path))
      ⊎ ((old.stands (companion_of old path) ≡ file []) × (new.stands (companion_of old path) ≡ nothing))
  pub others : (place : List ℕ) → (place ≡ companion_of old path → ⊥) → new.stands place ≡ old.stands place

-- the companion of a disk was looked at, and removed if it was empty, or not
pub record LeavesCompanion (path : List ℕ) (old new : Folders) : Type 0 where
  pub clears : ClearsCompanion path old.places new.places
  pub goes : GoesAhead old new

-- a call at one of these paths failed in between
pub record FailsAtEither (path companion : List ℕ) (old new : List FailedCall) : Type 0 where
  pub call : FailedCall
  pub at : (call.path ≡ path) ⊎ (call.path ≡ companion)
  pub failed : FailsBetween call old new

-- There is no empty file at the place of the companion of the disk at this path; or a call failed at one of the two paths.
abbrev pub IsRidOfCompanion : List ℕ → List FailedCall → List FailedCall → Folders → Type 0
IsRidOfCompanion path old new now =
    (now.places.stands (companion_of now.places path) ≢ file []) ⊎ FailsAtEither path (companion_of now.places path) old new

-- this cause says nothing about what is at the path
abbrev pub IsSilent : FileCause → Type 0
IsSilent causes.Missing = ⊥
IsSilent causes.Folder = ⊥
IsSilent causes.Special = ⊥
IsSilent cause = Unit {0}

-- why a disk could not be locked
abbrev pub IsUnlocked : Folders → Folders → FileFault → Type 0
IsUnlocked old new faults.Memory = Unit {0}
IsUnlocked old new faults.Busy = new.refused ≡ old.refused + 1
IsUnlocked old new (faults.Device cause) = (new.refused ≡ old.refused) × IsSilent cause × (old.failed < new.failed)
IsUnlocked old new fault = ⊥

-- a disk was locked and its companion was looked at; or it was not locked
pub record TakesLock {T : Type 0} (path : List ℕ) (seen : T → List ℕ) (result : Result T FileFault) (old new : Folders) : Type 0 where
  pub mid : Places
  pub made : MakesBoth path old.places mid
  pub clears : ClearsCompanion path mid new.places
  pub locked : IfOk result (λ f. (found_at mid path ≡ file (seen f)) × GoesAhead old new)
  pub cause : IfErr result (IsUnlocked old new)

-- why a locked file is not fit to be a disk's: an answer was wrong, a call failed, or it does not have the length of a disk
pub record IsUnfit {D : Type 0} (is_clean : D → Bool) (failures : D → ℕ) (seen : D → List ℕ) (before : D) : Type 0 where
  pub after : D
  pub cause : IsTrue (is_clean after) → IsTrue (is_clean before) × ((0 < failures after) ⊎ (length (seen before) ≡ disk_length → ⊥))

-- the fault for a file that is not fit to be a disk's
abbrev pub IsUnstarted : Type 0 → FileFault → Type 0
IsUnstarted Unfit faults.Memory = Unit {0}
IsUnstarted Unfit (faults.Device cause) = IsSilent cause × Unfit
IsUnstarted Unfit fault = ⊥

-- a file that could not be filled is unchanged, unless its sync failed, or setting its length back failed too
abbrev pub IsSetBack : {D : Type 0} → (D → List ℕ) → (D → Bool) → (D → ℕ) → D → D → Type 0
IsSetBack seen is_usable failures old new = IsTrue (is_usable new) → failures old ≡ 0 → (seen new ≡ seen old) ⊎ (1 < failures new)
