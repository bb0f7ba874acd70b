-- Which answers report a device fault.
use Rattle.std.specs.Prelude.{Bool, true, false, Result, Ok, Err}
use Rattle.zh_journal.specs.declared.fault.AppendFault.{AppendFault}
use Rattle.zh_journal.specs.declared.fault.AppendFault.TheVariants as append
use Rattle.zh_journal.specs.declared.fault.OpenFault.{OpenFault}
use Rattle.zh_journal.specs.declared.fault.OpenFault.TheVariants as opening

abbrev pub area_open_fails : {T : Type 0} → Result T OpenFault → Bool
area_open_fails (Ok x) = false
area_open_fails (Err opening.Device) = true
area_open_fails (Err opening.Damaged) = false

abbrev pub area_append_fails : {T : Type 0} → Result T AppendFault → Bool
area_append_fails (Ok x) = false
area_append_fails (Err append.Device) = true
area_append_fails (Err append.Full) = false
