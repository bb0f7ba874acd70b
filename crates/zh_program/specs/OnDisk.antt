-- What a task on a disk does to a world.
use Rattle.std.specs.Prelude.{◌≡◌, ◌⊎◌, ◌≤◌, ◌+◌, ℕ, List, Option, Some, None, Result, IsErrAnd}
use Rattle.zh_arguments.specs.declared.arguments.Paths.{Paths}
use Rattle.zh_districts.specs.Canton.{Canton}
use Rattle.zh_file.specs.Files.{LeavesOf}
use Rattle.zh_file.specs.Places.{Touches}
use Rattle.zh_file.specs.declared.fault.FileFault.{FileFault}
use Rattle.zh_file.specs.declared.fault.FileFault.TheVariants as of_files
use Rattle.zh_program.specs.DryRun.{MakesDryRun}
use Rattle.zh_program.specs.Format.{Formatted}
use Rattle.zh_program.specs.Load.{HasLoaded}
use Rattle.zh_program.specs.Query.{ShowsHeld}
use Rattle.zh_program.specs.Run.{Ran}
use Rattle.zh_program.specs.Texts.{IsOfSetup}
use Rattle.zh_program.specs.World.{AsksForDisk, BeginsAt, EndOf, FilmedOf, IsMetAt, IsSetupAt, Known, LeftAt, WorldOf}
use Rattle.zh_program.specs.declared.fault.TaskFault.{TaskFault}
use Rattle.zh_program.specs.declared.fault.TaskFault.TheVariants as faults
use Rattle.zh_program.specs.declared.place.TaskFile.TheVariants as files
use Rattle.zh_program.specs.declared.on_disk.Work.{Work}
use Rattle.zh_program.specs.declared.on_disk.Work.TheVariants as works
use Rattle.zh_program.specs.declared.on_disk.Used.TheVariants.{Disk}

-- The fault of files that give no disk, as the fault of the task.
abbrev pub FoundAs : FileFault → TaskFault → Type 0
FoundAs of_files.Memory e = e ≡ faults.Memory
FoundAs (of_files.Device cause) e = e ≡ faults.Unopened files.Disk cause
FoundAs (of_files.Size length) e = e ≡ faults.Size length
FoundAs of_files.Busy e = e ≡ faults.Busy

-- The fault is about the set-up or its file, after one call of the files; or it is about the disk, after two. A fault of a file
-- is the one that the call for it met. The task has no disk yet.
abbrev pub IsEarly : Option (List ℕ) → (FileFault → Type 0) → (FileFault → Type 0) → (ℕ → Type 0) → TaskFault → Type 0
IsEarly text Met OfDisk Calls fault =
    (Calls 1 × IsOfSetup text Met fault) ⊎ (Calls 2 × ((why : FileFault) × FoundAs why fault × OfDisk why))

-- What this work does with an open disk, from a world and the disk to a world and what is handed over.
abbrev pub DoesOn : (of : Known) → Work → Canton → WorldOf of × of.Disk → WorldOf of × FilmedOf of
    → Result (Unit {0}) TaskFault → Type 0
DoesOn of works.Format canton before after result = Formatted of canton before (after.0, after.1.disk) result
DoesOn of works.Run canton before after result = Ran of canton before after result
DoesOn of (works.Load csv) canton before after result = HasLoaded of csv.now canton before after result
DoesOn of (works.DryRun csv) canton before after result = MakesDryRun of csv.now canton before (after.0, after.1.disk) result
DoesOn of (works.Show query) canton before after result = ShowsHeld of query canton before (after.0, after.1.disk) result

-- No disk was opened. Nothing was read from the input or written.
pub record EndsEarly (of : Known) (work : Work) (paths : Paths) (old new : WorldOf of) (ended : EndOf of) : Type 0 where
  pub early : IsErrAnd ended.result (IsEarly (of.files.text_at old.files paths.setup.now)
      (IsMetAt of.files paths.setup.now old.files new.files) (IsMetAt of.files paths.disk.now old.files new.files)
      (λ n. of.files.calls new.files ≡ of.files.calls old.files + n))
  pub none : ended.used ≡ None
  pub rest : new ≡ record old { files = new.files }
  pub counted : of.files.calls new.files ≤ of.files.calls old.files + 2
  pub touches : Touches (Some paths.disk.now) (of.files.places old.files) (of.files.places new.files)
  pub leaves : LeavesOf (LeftAt work) (of.files.disk_at old.files paths.disk.now) (of.files.left old.files) (of.files.left new.files)

-- The work was done with this set-up on this disk, which is handed over with its film. Two calls of the files came first: one
-- for the text of the set-up and one for the disk, each at its path.
pub record HasUsed (of : Known) (work : Work) (paths : Paths) (old new : WorldOf of) (ended : EndOf of) : Type 0 where
  pub canton : Canton
  pub files : of.Folder
  pub first : of.Disk
  pub last : FilmedOf of
  pub setup : IsSetupAt (of.files.text_at old.files paths.setup.now) canton
  pub asked : AsksForDisk of.files paths.disk.now old.files files
  pub begins : BeginsAt work (of.files.disk_at old.files paths.disk.now) (of.disks.history first)
  pub does : DoesOn of work canton (record old { files = files }, first) (new, last) ended.result
  pub used : ended.used ≡ Some (Disk last)

-- A task with this work on a disk: either it ends before it has a disk, or it hands over the disk that it used, whatever the
-- result.
abbrev pub UsesDisk : (of : Known) → Work → Paths → WorldOf of → WorldOf of → EndOf of → Type 0
UsesDisk of work paths old new ended = EndsEarly of work paths old new ended ⊎ HasUsed of work paths old new ended
