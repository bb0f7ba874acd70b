-- The report of a fault, in bytes: 10 is LF, 32 the space.
use Rattle.std.specs.Prelude.{ℕ, List, [], ◌∷◌, ◌++◌, Option, Some, None, codes, decimal}
use Rattle.zh_csv.specs.Faults.{held_name}
use Rattle.zh_verdicts.specs.Reports.{setup_place}
use Rattle.zh_disk.specs.Disk.{disk_length}
use Rattle.zh_ledger.specs.Faults.{opening_name}
use Rattle.zh_office.specs.Served.{serving_name}
use Rattle.zh_program.specs.Places.{named_place}
use Rattle.zh_program.specs.declared.fault.TaskFault.{TaskFault}
use Rattle.zh_program.specs.declared.fault.TaskFault.TheVariants as faults
use Rattle.zh_setups.specs.Names.{setup_name}
use Rattle.zh_tables.specs.Faults.{list_name}
use Rattle.zh_setups.specs.declared.place.FaultPlace.{FaultPlace}
use Rattle.zh_setups.specs.declared.place.FaultPlace.TheVariants as of_text
use Rattle.zh_setups.specs.declared.place.Key.TheVariants as keys
use Rattle.zh_program.specs.declared.place.TaskFile.{TaskFile}
use Rattle.zh_program.specs.declared.place.TaskFile.TheVariants as files
use Rattle.zh_file.specs.Causes.{cause_name}
use Rattle.zh_program.specs.Paths.{shown_path}
use Rattle.zh_program.specs.declared.place.TaskPlace.{TaskPlace}
use Rattle.zh_program.specs.declared.place.TaskPlace.TheVariants as places

-- The name of the fault of a file that was not opened or not read.
abbrev pub file_name : TaskFile → List ℕ
file_name files.Setup = codes "setup file"
file_name files.Disk = codes "disk device"
file_name files.Csv = codes "csv file"
file_name files.Sheet = codes "sheet file"
file_name files.Held = codes "held file"

-- The name of a fault.
abbrev pub fault_text : TaskFault → List ℕ
fault_text (faults.Unopened file cause) = file_name file
fault_text (faults.Unreadable file) = file_name file
fault_text (faults.Setup refusal) = setup_name refusal.fault
fault_text faults.Device = file_name files.Disk
fault_text faults.Busy = codes "disk busy"
fault_text (faults.Size found) = codes "disk size"
fault_text faults.InUse = codes "disk inuse"
fault_text (faults.Open fault) = opening_name fault
fault_text (faults.Held fault) = held_name fault
fault_text (faults.Table fault) = list_name fault
fault_text faults.Memory = codes "memory"
fault_text (faults.Serve fault) = serving_name fault
fault_text faults.Write = codes "write"
fault_text faults.Faulted = file_name files.Disk
fault_text faults.Refused = codes "refused"

-- The limits of the value at a place in a set-up, as text.
abbrev pub limits_text : FaultPlace → List ℕ
limits_text (of_text.Top keys.Version) = codes ": 1 or 2"
limits_text (of_text.Top keys.House) = codes ": 1 to 400"
limits_text (of_text.Top keys.CantonQuorum) = codes ": 1 to 49"
limits_text (of_text.Top keys.Constituency) = codes ": 1 to 32 tables"
limits_text (of_text.Top keys.Municipality) = codes ": 1 to 512 tables"
limits_text (of_text.Top keys.Group) = codes ": 1 to 32 tables"
limits_text (of_text.Table kind number keys.Name) = codes ": 1 to 40 bytes, no space at an end"
limits_text (of_text.Table kind number keys.Persons) = codes ": 1 to 10000000"
limits_text (of_text.Table kind number keys.Constituency) = codes ": the number of a constituency"
limits_text (of_text.Table kind number keys.Stands) = codes ": numbers of constituencies"
limits_text place = []

-- A place or a cause: why a file was not opened, a place in a set-up, or the length of a disk's file that is not that of a
-- disk.
abbrev pub place_text : TaskPlace → List ℕ
place_text (places.Cause cause) = cause_name cause
place_text (places.Setup place) = setup_place place
place_text (places.Range place) = setup_place place ++ limits_text place
place_text (places.Length found) = decimal found ++ codes " bytes instead of " ++ decimal disk_length

-- The second line: the path of the file, and the place in it or the cause, as far as known.
abbrev pub second_line : Option (List ℕ) → Option TaskPlace → List ℕ
second_line None None = []
second_line None (Some place) = place_text place ++ 10 ∷ []
second_line (Some path) None = shown_path path ++ 10 ∷ []
second_line (Some path) (Some place) = shown_path path ++ codes ": " ++ place_text place ++ 10 ∷ []

-- The report of a fault: a line with its name, then the second line. The path is that of the file in which it occurred, if any.
abbrev pub report_text : Option (List ℕ) → TaskFault → List ℕ
report_text path fault = (codes "zhcount: " ++ fault_text fault ++ 10 ∷ []) ++ second_line path (named_place fault)
