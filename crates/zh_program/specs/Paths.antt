-- The path of the file in which a fault occurred, and how it is shown.
use Rattle.std.specs.Prelude.{ℕ, List, length, min, Option, Some, None, option_and_then, option_map}
use Rattle.zh_arguments.specs.declared.arguments.Paths.{Paths}
use Rattle.zh_arguments.specs.declared.arguments.Task.{Task}
use Rattle.zh_arguments.specs.declared.arguments.Task.TheVariants.{Rehearse, Format, Run, Load, Check}
use Rattle.zh_arguments.specs.declared.arguments.Task.TheVariants as tasks
use Rattle.zh_verdicts.specs.Reports.{safe_byte}
use Rattle.zh_text.specs.Each.{each_to}
use Rattle.zh_program.specs.Places.{role_of}
use Rattle.zh_program.specs.declared.fault.TaskFault.{TaskFault}
use Rattle.zh_program.specs.declared.place.TaskFile.{TaskFile}
use Rattle.zh_program.specs.declared.place.TaskFile.TheVariants as files

-- The path of the set-up or of the disk, for a task that is given both.
abbrev pub path_among : Paths → TaskFile → Option (List ℕ)
path_among paths files.Setup = Some paths.setup.now
path_among paths files.Disk = Some paths.disk.now
path_among paths file = None

-- The path of the set-up or of the sheet, for a task that is given both.
abbrev pub path_stated : List ℕ → List ℕ → TaskFile → Option (List ℕ)
path_stated setup sheet files.Setup = Some setup
path_stated setup sheet files.Sheet = Some sheet
path_stated setup sheet file = None

-- The path of the file, if the task is given one.
abbrev pub file_path : Task → TaskFile → Option (List ℕ)
file_path Rehearse file = None
file_path (Format paths) file = path_among paths file
file_path (Run paths) file = path_among paths file
file_path (Load paths csv) files.Csv = Some csv.now
file_path (Load paths csv) file = path_among paths file
file_path (tasks.DryRun paths csv) files.Csv = Some csv.now
file_path (tasks.DryRun paths csv) file = path_among paths file
file_path (tasks.Show paths query) file = path_among paths file
file_path (tasks.List setup table) files.Setup = Some setup.now
file_path (tasks.List setup table) file = None
file_path (Check paths) files.Held = option_map (λ path. path.now) paths.held
file_path (Check paths) file = path_stated paths.setup.now paths.sheet.now file
file_path (tasks.SheetSeats setup sheet layout) file = path_stated setup.now sheet.now file
file_path tasks.Version file = None

-- The path of the file in which a fault of the task occurred, if it was a file with a path.
abbrev pub fault_path : Task → TaskFault → Option (List ℕ)
fault_path task fault = option_and_then (file_path task) (role_of fault)

-- A path as it is shown: at most 4,096 bytes. Linux accepts no longer path.
abbrev pub shown_path : List ℕ → List ℕ
shown_path path = each_to (min (length path) 4096) (safe_byte path)
