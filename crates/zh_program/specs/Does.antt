-- What the program does, as one record for callers that pass on its status.
use Rattle.std.specs.Prelude.{◌≡◌, ◌≢◌, ◌≤◌, ◌⊎◌, ℕ, List, [], ◌∷◌, ◌++◌, codes, Option, Some, None, Ok}
use Rattle.std.specs.declared.io.ErrorKind.{ErrorKind}
use Rattle.std.specs.declared.io.ErrorKind.TheVariants as kinds
use Rattle.zh_arguments.specs.Arguments.{AsksFor, refusals}
use Rattle.zh_arguments.specs.declared.arguments.Task.{Task}
use Rattle.zh_disk.specs.declared.memory.MemoryDisk.{MemoryDisk}
use Rattle.zh_film.specs.declared.film.Film.{Film}
use Rattle.zh_file.specs.Places.{Touches}
use Rattle.zh_program.specs.Remarks.{BecameOf}
use Rattle.zh_program.specs.Tasks.{Does}
use Rattle.zh_program.specs.World.{FilmedOf, Known, UsedOf, WorldOf}
use Rattle.zh_program.specs.declared.fault.TaskFault.TheVariants as faults
use Rattle.zh_program.specs.declared.on_disk.Used.TheVariants as used_as
use Rattle.zh_program.specs.Program.{LeavesAsFound, MetFault, NothingDone, disk_path, ends}
use Rattle.zh_program.specs.Promise.{Promise, RehearsalPromise}
use Rattle.zh_program.specs.Reports.{report_text}

-- The clauses of `program` under their names: for the arguments, the world before and after, the status, and what is handed
-- over.
pub record ProgramDoes (of : Known) (arguments : List (List ℕ)) (old new : WorldOf of) (status : ℕ)
    (used : Option (UsedOf of)) : Type 0 where
  pub bound : status ≤ 2
  pub done : status ≡ 0 → (task : Task) × AsksFor arguments task × Does of task old new (ends (Ok tt) used)
  pub fault : status ≡ 1 → (NothingDone old new used
      × BecameOf new.remark (of.errors.contents old.faults) (of.errors.contents new.faults) (report_text None faults.Memory))
      ⊎ ((task : Task) × AsksFor arguments task × MetFault of task old new used)
  pub headline : (disk : FilmedOf of) → used ≡ Some (used_as.Disk disk) → Promise of arguments old new status disk
  pub rehearsed : (film : Film of.Input of.Output MemoryDisk) → used ≡ Some (used_as.Rehearsal film)
      → RehearsalPromise of old new status film
  pub touches : (new.files ≡ old.files) ⊎ ((task : Task) × AsksFor arguments task
      × Touches (disk_path task) (of.files.places old.files) (of.files.places new.files)
      × (used ≡ None → LeavesAsFound task (of.files.disk_at old.files) (of.files.left old.files) (of.files.left new.files)))
  pub refused : status ≡ 2 → (refusals arguments ≢ []) × NothingDone old new used

-- For arguments that can't be read, by the kind of the error: the status and the report. Either one of them is not UTF-8 (10 is
-- the LF that ends the line), or memory was refused.
abbrev pub unread : ErrorKind → ℕ × List ℕ
unread kinds.InvalidData = (2, codes "error: an argument is not UTF-8" ++ 10 ∷ [])
unread kind = (1, report_text None faults.Memory)
