-- The trail and the history of a disk over a file.
use Rattle.std.specs.Prelude.{◌≡◌, ◌+◌, ◌⊎◌, Bool, true, false, ℕ, IsTrue, List, Result, IsErr, OnOk, OnErr, length, map, slice_index}
use Rattle.sqlite_disk.specs.Disk.{MoreFaults}
use Rattle.sqlite_disk.specs.declared.Disk.{Ghosts}
use Rattle.zh_disk.specs.declared.disk.DiskFault.{DiskFault}
use Rattle.zh_disk.specs.History.{History}
use Rattle.zh_disk.specs.Disk.{Moment, disk_length}
use Rattle.zh_film.specs.Past.{items}
use Rattle.zh_file.specs.declared.stored.Stored.{Stored}
use Rattle.zh_file.specs.Locked.{IsLeftAt}
use Rattle.zh_file.specs.declared.stored.HeldFile.{HeldFile}

-- what a read gives, and the ranges that were written since the last sync
abbrev pub moment : {D : Type 0} → (D → List ℕ) → HeldFile D → Moment
moment seen h = record { bytes = seen h.file; pending = items h.written }

-- the bytes of a new disk: zeros
pub record IsZeroed (bytes : List ℕ) : Type 0 where
  pub size : length bytes ≡ disk_length
  pub zero : (k : ℕ) → slice_index bytes k ≡ 0

module _ {D : Type 0} {g : Ghosts D} where
  -- what its file was at each moment before it became a disk, the latest first
  abbrev pub opening_moments : Stored D g → List D
  opening_moments d = items d.opening

  -- all answers of the file were right, and a stop before it became a disk can have left this
  abbrev pub IsLeftOpening : Stored D g → List ℕ → Type 0
  IsLeftOpening d c = IsTrue (g.is_clean d.held.file) × IsLeftAt g.may_leave (opening_moments d) c

  -- the file of the disk
  abbrev pub stored_file : Stored D g → D
  stored_file d = d.held.file

  -- how many calls of its file have failed, according to the record of these calls
  abbrev pub stored_faults : Stored D g → ℕ
  stored_faults d = g.faults d.held.file

  -- how many calls of the disk have failed: the failed calls of its file, and the calls that it refused once it was over
  abbrev pub stored_failures : Stored D g → ℕ
  stored_failures d = stored_faults d + d.refusals

  -- the history since the disk was opened; it is honest while no answer of the file was wrong
  abbrev pub stored_history : Stored D g → History
  stored_history d = record {
    honest = g.is_clean d.held.file;
    failures = stored_failures d;
    trail = record { now = moment g.seen d.held; past = map (moment g.seen) (items d.before) };
  }

  -- the disk is over: a write or a sync has failed
  abbrev pub is_over : Stored D g → Bool
  is_over d = d.is_over

  -- no call of the disk has failed
  pub record IsWhole (d : Stored D g) : Type 0 where
    pub failures : stored_failures d ≡ 0
    pub begun : is_over d ≡ false

  -- A call of a disk that is over fails and does not use the file.
  pub record StaysOver (old new : Stored D g) (result : Result (Unit {0}) DiskFault) : Type 0 where
    pub fails : IsErr result
    pub over : new.is_over ≡ true
    pub same : new.held.file ≡ old.held.file

  -- What an answer says about the file: if the call succeeded, no call of the file failed. If it failed,
  -- the disk was over or a call of the file failed.
  pub record Reports (old new : Stored D g) (result : Result (Unit {0}) DiskFault) : Type 0 where
    pub unfailed : OnOk result (stored_faults new ≡ stored_faults old)
    pub caused : OnErr result ((is_over old ≡ true) ⊎ MoreFaults (stored_faults old) (stored_faults new))
    pub over : is_over old ≡ true → StaysOver old new result
