-- Which answers are a fault of the device, and which may leave the disk changed; the names of the faults of an opening.
use Rattle.std.specs.Prelude.{ℕ, Bool, true, false, List, Result, Ok, Err, codes}
use Rattle.zh_snapshot.specs.declared.fault.OpenFault as store
use Rattle.zh_snapshot.specs.declared.fault.OpenFault.TheVariants as of_store
use Rattle.zh_ledger.specs.declared.opening.OpenFault.{OpenFault}
use Rattle.zh_ledger.specs.declared.opening.OpenFault.TheVariants as faults
use Rattle.zh_ledger.specs.declared.outcome.Outcome.{Outcome}
use Rattle.zh_ledger.specs.declared.outcome.Outcome.TheVariants.{Stored, Same, Refused, Spent, Device, Broken}

abbrev pub fails : Outcome → Bool
fails (Stored accepted) = false
fails Same = false
fails (Refused reason) = false
fails Spent = false
fails Device = true
fails Broken = false

-- whether the disk can have changed if a command has this outcome
abbrev pub may_write : Outcome → Bool
may_write (Stored accepted) = true
may_write Same = false
may_write (Refused reason) = false
may_write Spent = false
may_write Device = true
may_write Broken = false

abbrev pub open_fails : {T : Type 0} → Result T OpenFault → Bool
open_fails (Ok opened) = false
open_fails (Err faults.Memory) = false
open_fails (Err faults.Device) = true
open_fails (Err faults.Blank) = false
open_fails (Err faults.Damaged) = false
open_fails (Err faults.SetupDiffers) = false

-- the fault of a store's opening as one of a ledger's
abbrev pub fault_of_store : store.OpenFault → OpenFault
fault_of_store of_store.Device = faults.Device
fault_of_store of_store.Blank = faults.Blank
fault_of_store of_store.Damaged = faults.Damaged
fault_of_store of_store.Memory = faults.Memory

-- the name of a fault, as reports spell it
abbrev pub opening_name : OpenFault → List ℕ
opening_name faults.Memory = codes "memory"
opening_name faults.Device = codes "disk device"
opening_name faults.Blank = codes "disk blank"
opening_name faults.Damaged = codes "disk damaged"
opening_name faults.SetupDiffers = codes "disk differs"
