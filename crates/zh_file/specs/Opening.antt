-- What opening a disk leaves in a folder, and what each fault says about its cause.
use Rattle.std.specs.Prelude.{◌≡◌, ◌≢◌, ◌⊎◌, ◌<◌, ◌+◌, ℕ, Bool, IsTrue, List, Result, IfOk, IfErr}
use Rattle.zh_disk.specs.Disk.{disk_length}
use Rattle.zh_disk.specs.History.{History}
use Rattle.zh_file.specs.Causes.{IsCauseAt, IsLength}
use Rattle.zh_file.specs.Files.{BeginsWith}
use Rattle.zh_file.specs.Places.{Places, Standing, bytes_of, found_at, TouchesOnly}
use Rattle.zh_file.specs.Places.Standing.{file, folder, other}
use Rattle.zh_file.specs.Folder.{Folders}
use Rattle.zh_file.specs.declared.fault.FileFault.{FileFault}
use Rattle.zh_file.specs.declared.fault.FileFault.TheVariants as faults

-- at each path there is what was there before
pub record AreSame (old new : Places) : Type 0 where
  pub leads : new.leads ≡ old.leads
  pub stands : (place : List ℕ) → new.stands place ≡ old.stands place

-- what is there is not a file
abbrev pub IsNoFile : Standing → Type 0
IsNoFile standing = (standing ≡ folder) ⊎ (standing ≡ other)

-- If all answers of the file that was locked were right, a call of it has failed.
abbrev pub HasFailed : {D : Type 0} → (D → Bool) → (D → ℕ) → Type 0
HasFailed {D} is_clean failures = (after : D) × (IsTrue (is_clean after) → 0 < failures after)

-- Why there is no disk, memory aside. `IsRefused` says which lengths are refused, and `Failed` that a call of the locked file
-- failed. If the length is wrong, nothing was made or removed. If the file is busy, one more lock was refused. A cause is right
-- about what was at the path.
abbrev pub IsOpeningCause : (ℕ → Type 0) → Type 0 → List ℕ → Folders → Folders → FileFault → Type 0
IsOpeningCause IsRefused Failed path old new faults.Memory = Unit {0}
IsOpeningCause IsRefused Failed path old new (faults.Size n) =
    IsLength (found_at old.places path) n × IsRefused n × AreSame old.places new.places
IsOpeningCause IsRefused Failed path old new faults.Busy = new.refused ≡ old.refused + 1
IsOpeningCause IsRefused Failed path old new (faults.Device cause) =
    (new.refused ≡ old.refused) × IsCauseAt (found_at old.places path) cause
    × ((old.failed < new.failed) ⊎ (IsNoFile (found_at old.places path) ⊎ Failed))

-- not the length of a disk
abbrev pub IsNoDisk : ℕ → Type 0
IsNoDisk n = n ≢ disk_length

-- neither the length of a disk nor 0
abbrev pub IsNoStart : ℕ → Type 0
IsNoStart n = (n ≢ disk_length) × (n ≢ 0)

-- The disk at this path was opened, and `bytes` are those with which it begins; or it was not opened. What is at the path is
-- unchanged.
pub record OpensDisk {T : Type 0} (Failed : Type 0) (path : List ℕ) (bytes : T → List ℕ) (result : Result T FileFault)
    (old new : Folders) : Type 0 where
  pub touches : TouchesOnly path old.places new.places
  pub kept : found_at new.places path ≡ found_at old.places path
  pub opened : IfOk result (λ disk. found_at old.places path ≡ file (bytes disk))
  pub refused : IfOk result (λ disk. new.refused ≡ old.refused)
  pub cause : IfErr result (IsOpeningCause IsNoDisk Failed path old new)

-- The same for a disk that is made if there is none, or if there is an empty file: the file is then filled with zeros.
pub record OpensOrMakesDisk {T : Type 0} (Failed : Type 0) (path : List ℕ) (history : T → History) (result : Result T FileFault)
    (old new : Folders) : Type 0 where
  pub touches : TouchesOnly path old.places new.places
  pub opened : IfOk result (λ disk. IsTrue (history disk).honest
      → (¬ IsNoFile (found_at old.places path)) × BeginsWith (bytes_of (found_at old.places path)) (history disk).trail)
  pub refused : IfOk result (λ disk. new.refused ≡ old.refused)
  pub cause : IfErr result (IsOpeningCause IsNoStart Failed path old new)
