-- Which answers report a device fault, and what an error of opening an area becomes for the store.
use Rattle.std.specs.Prelude.{◌≡◌, Bool, true, false, Result, Ok, Err}
use Rattle.zh_journal.specs.declared.fault.OpenFault as area
use Rattle.zh_journal.specs.declared.fault.OpenFault.TheVariants as of_area
use Rattle.zh_snapshot.specs.declared.fault.AppendFault.{AppendFault}
use Rattle.zh_snapshot.specs.declared.fault.AppendFault.TheVariants as append
use Rattle.zh_snapshot.specs.declared.fault.FormatFault.{FormatFault}
use Rattle.zh_snapshot.specs.declared.fault.FormatFault.TheVariants as format
use Rattle.zh_snapshot.specs.declared.fault.SwitchFault.{SwitchFault}
use Rattle.zh_snapshot.specs.declared.fault.SwitchFault.TheVariants as switch
use Rattle.zh_snapshot.specs.declared.fault.OpenFault.{OpenFault}
use Rattle.zh_snapshot.specs.declared.fault.OpenFault.TheVariants.{Device, Blank, Damaged, Memory}

abbrev pub AsStoreFault : area.OpenFault → OpenFault → Type 0
AsStoreFault of_area.Device e = e ≡ Device
AsStoreFault of_area.Damaged e = e ≡ Damaged

abbrev pub store_open_fails : {T : Type 0} → Result T OpenFault → Bool
store_open_fails (Ok opened) = false
store_open_fails (Err Device) = true
store_open_fails (Err Blank) = false
store_open_fails (Err Damaged) = false
store_open_fails (Err Memory) = false

abbrev pub store_append_fails : {T : Type 0} → Result T AppendFault → Bool
store_append_fails (Ok done) = false
store_append_fails (Err append.Device) = true
store_append_fails (Err append.Full) = false
store_append_fails (Err append.Broken) = false

abbrev pub store_switch_fails : {T : Type 0} → Result T SwitchFault → Bool
store_switch_fails (Ok done) = false
store_switch_fails (Err switch.Device) = true
store_switch_fails (Err switch.Spent) = false
store_switch_fails (Err switch.Broken) = false

abbrev pub store_format_fails : {T : Type 0} → Result T FormatFault → Bool
store_format_fails (Ok done) = false
store_format_fails (Err format.Memory) = false
store_format_fails (Err format.Device) = true
