-- Where a fault occurred, its cause, and the file.
use Rattle.std.specs.Prelude.{Option, Some, None, option_map}
use Rattle.zh_ledger.specs.declared.opening.OpenFault.TheVariants as opening
use Rattle.zh_setups.specs.declared.text.SetupFault.TheVariants as of_setup
use Rattle.zh_setups.specs.declared.text.SetupFault.{SetupFault}
use Rattle.zh_setups.specs.declared.place.FaultPlace.{FaultPlace}
use Rattle.zh_program.specs.declared.fault.TaskFault.{TaskFault}
use Rattle.zh_program.specs.declared.fault.TaskFault.TheVariants as faults
use Rattle.zh_program.specs.declared.place.TaskFile.{TaskFile}
use Rattle.zh_program.specs.declared.place.TaskFile.TheVariants as files
use Rattle.zh_program.specs.declared.place.TaskPlace.{TaskPlace}
use Rattle.zh_program.specs.declared.place.TaskPlace.TheVariants as places

-- A place in the text of a set-up. If its value is out of range, the report also shows the limits.
abbrev pub place_in_setup : SetupFault → FaultPlace → TaskPlace
place_in_setup of_setup.Range place = places.Range place
place_in_setup fault place = places.Setup place

-- The place that a fault names, or its cause.
abbrev pub named_place : TaskFault → Option TaskPlace
named_place (faults.Unopened file cause) = Some (places.Cause cause)
named_place (faults.Setup refusal) = option_map (place_in_setup refusal.fault) refusal.place
named_place (faults.Size length) = Some (places.Length length)
named_place fault = None

-- The file of a fault of the set-up: the set-up, unless memory was refused.
abbrev pub setup_role : SetupFault → Option TaskFile
setup_role of_setup.Memory = None
setup_role fault = Some files.Setup

-- The file in which a fault occurred, if it was a file.
abbrev pub role_of : TaskFault → Option TaskFile
role_of (faults.Unopened file cause) = Some file
role_of (faults.Unreadable file) = Some file
role_of (faults.Setup refusal) = setup_role refusal.fault
role_of faults.Device = Some files.Disk
role_of faults.Busy = Some files.Disk
role_of (faults.Size length) = Some files.Disk
role_of faults.InUse = Some files.Disk
role_of (faults.Open opening.Memory) = None
role_of (faults.Open fault) = Some files.Disk
role_of faults.Faulted = Some files.Disk
role_of (faults.Held fault) = Some files.Held
role_of fault = None
