-- What the program reports about a task.
use Rattle.std.specs.Prelude.{◌≡◌, ◌≢◌, ℕ, List, Option, None, MatchOption, Result, Err, option_map}
use Rattle.zh_arguments.specs.declared.arguments.Task.{Task}
use Rattle.zh_arguments.specs.declared.arguments.Task.TheVariants.{Format}
use Rattle.zh_arguments.specs.Commands.{paths_of}
use Rattle.zh_file.specs.Files.{IsAsFound, IsFilling, LeavesNoMore, LeavesOf}
use Rattle.zh_file.specs.declared.world.Ended.{Ended}
use Rattle.zh_file.specs.declared.world.World.{World}
use Rattle.zh_program.specs.Remarks.{BecameOf}
use Rattle.zh_program.specs.Tasks.{Does}
use Rattle.zh_program.specs.World.{Known, UsedOf, WorldOf}
use Rattle.zh_program.specs.declared.fault.TaskFault.{TaskFault}
use Rattle.zh_program.specs.declared.fault.TaskFault.TheVariants as faults
use Rattle.zh_program.specs.Paths.{fault_path}
use Rattle.zh_program.specs.Reports.{report_text}

-- The end of a task: its result and what it hands over.
abbrev pub ends : {D : Type 0} → Result (Unit {0}) TaskFault → Option D → Ended (Result (Unit {0}) TaskFault) D
ends result used = record { result = result; used = used }

-- The path of a task's disk, if it has one.
abbrev pub disk_path : Task → Option (List ℕ)
disk_path task = option_map (λ paths. paths.disk.now) (paths_of task)

-- What a stop may leave of the disk's file, which had these bytes, if the task opened no disk: those bytes or, for a formatting
-- of an empty file, at most as many bytes as a disk has.
abbrev pub IsLeftBy : Task → List ℕ → List ℕ → Type 0
IsLeftBy (Format paths) = IsFilling
IsLeftBy task = IsAsFound

-- Until the end, a stop can leave nothing new of any file, except of the one at the path of the task's disk: there, only what
-- `IsLeftBy` allows.
abbrev pub LeavesAsFound : Task → (List ℕ → Option (List ℕ)) → (List ℕ → Type 0) → (List ℕ → Type 0) → Type 0
LeavesAsFound task disk_at old new =
    MatchOption (disk_path task) (LeavesNoMore old new) (λ path. LeavesOf (IsLeftBy task) (disk_at path) old new)

-- A task met a fault. It is reported to standard error, whole or broken off, as the world's remark says. `Refused` is not
-- reported, because the task has already said why.
pub record MetFault (of : Known) (task : Task) (old new : WorldOf of) (used : Option (UsedOf of)) : Type 0 where
  pub fault : TaskFault
  pub after : WorldOf of
  pub does : Does of task old after (ends (Err fault) used)
  pub rest : new ≡ record after { faults = new.faults; remark = new.remark }
  pub reported : fault ≢ faults.Refused
      → BecameOf new.remark (of.errors.contents after.faults) (of.errors.contents new.faults) (report_text (fault_path task fault) fault)
  pub refused : fault ≡ faults.Refused → new ≡ after

module _ {I O E F D : Type 0} where
  -- No file was opened or read, nothing was read from the input or written to the output, and no disk is handed over.
  pub record NothingDone (old new : World I O E F) (used : Option D) : Type 0 where
    pub rest : new ≡ record old { faults = new.faults; remark = new.remark }
    pub none : used ≡ None
