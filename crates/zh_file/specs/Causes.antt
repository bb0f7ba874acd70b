-- Why a file could not be opened: the words for each cause, the causes by the kind of error that the system reports, and what a
-- cause says about what is at the path.
use Rattle.std.specs.Prelude.{◌≡◌, ◌≢◌, ℕ, List, codes, length, Option, Some, None, Result, Ok, Err}
use Rattle.std.specs.declared.io.ErrorKind.{ErrorKind}
use Rattle.std.specs.declared.io.ErrorKind.TheVariants as kinds
use Rattle.zh_disk.specs.Disk.{disk_length}
use Rattle.zh_file.specs.Places.{Places, Standing, found_at}
use Rattle.zh_file.specs.Places.Standing.{nothing, file, folder, other}
use Rattle.zh_file.specs.declared.fault.FileCause.{FileCause}
use Rattle.zh_file.specs.declared.fault.FileCause.TheVariants as causes
use Rattle.zh_file.specs.declared.fault.FileFault.{FileFault}
use Rattle.zh_file.specs.declared.fault.FileFault.TheVariants as faults

-- the words for a cause
abbrev pub cause_name : FileCause → List ℕ
cause_name causes.Missing = codes "there is no such file"
cause_name causes.Permission = codes "no permission"
cause_name causes.Folder = codes "is a folder"
cause_name causes.Special = codes "is no ordinary file"
cause_name causes.NoFolder = codes "a part of its path is no folder"
cause_name causes.ReadOnly = codes "the volume is read-only"
cause_name causes.NoRoom = codes "there is no room"
cause_name causes.LongName = codes "the name is too long"
cause_name causes.SecondName = codes "it or its companion is no file with one name"
cause_name causes.Journal = codes "a journal is beside it"
cause_name causes.Failed = codes "a call failed"

-- the cause for an error of this kind
abbrev pub cause_of : ErrorKind → FileCause
cause_of kinds.NotFound = causes.Missing
cause_of kinds.PermissionDenied = causes.Permission
cause_of kinds.IsADirectory = causes.Folder
cause_of kinds.NotADirectory = causes.NoFolder
cause_of kinds.ReadOnlyFilesystem = causes.ReadOnly
cause_of kinds.StorageFull = causes.NoRoom
cause_of kinds.QuotaExceeded = causes.NoRoom
cause_of kinds.InvalidFilename = causes.LongName
cause_of kind = causes.Failed

-- the fault for an error of this kind
abbrev pub fault_of_kind : ErrorKind → FileFault
fault_of_kind kinds.OutOfMemory = faults.Memory
fault_of_kind kind = faults.Device (cause_of kind)

-- The fault for an error of a disk's file after that was found at its path. It says nothing about what is there: if the error says
-- that something is missing or a folder, that is not the file.
abbrev pub fault_of_found : ErrorKind → FileFault
fault_of_found kinds.OutOfMemory = faults.Memory
fault_of_found kinds.NotFound = faults.Device causes.Failed
fault_of_found kinds.IsADirectory = faults.Device causes.Failed
fault_of_found kind = faults.Device (cause_of kind)

-- The fault for an error of locking a disk. `Unsupported` means that the file has a second name, or that its companion is not a
-- file with one name.
abbrev pub fault_of_locking : ErrorKind → FileFault
fault_of_locking kinds.Unsupported = faults.Device causes.SecondName
fault_of_locking kind = fault_of_found kind

-- what a cause says about what is at the path: that there is nothing, a folder, or neither a file nor a folder; the other causes
-- say nothing
abbrev pub IsCauseAt : Standing → FileCause → Type 0
IsCauseAt standing causes.Missing = standing ≡ nothing
IsCauseAt standing causes.Folder = standing ≡ folder
IsCauseAt standing causes.Special = standing ≡ other
IsCauseAt standing cause = Unit {0}

-- there is a file with this many bytes
abbrev pub IsLength : Standing → ℕ → Type 0
IsLength (file bytes) n = n ≡ length bytes
IsLength standing n = ⊥

-- what a fault says about what is at the path
abbrev pub IsFaultAt : Standing → FileFault → Type 0
IsFaultAt standing faults.Memory = Unit {0}
IsFaultAt standing (faults.Device cause) = IsCauseAt standing cause
IsFaultAt standing (faults.Size n) = IsLength standing n × (n ≢ disk_length)
IsFaultAt standing faults.Busy = Unit {0}

-- the same, if it is known what is at the path
abbrev pub IsFaultIn : Option Places → List ℕ → FileFault → Type 0
IsFaultIn None path fault = Unit {0}
IsFaultIn (Some places) path fault = IsFaultAt (found_at places path) fault

-- How a call at a path ended, and what is noted: None if it did not fail, or its fault, which is right about what is there.
abbrev pub EndsAt : {T : Type 0} → Option Places → List ℕ → Option FileFault → Result T FileFault → Type 0
EndsAt places path noted (Ok opened) = noted ≡ None
EndsAt places path noted (Err fault) = (noted ≡ Some fault) × IsFaultIn places path fault
