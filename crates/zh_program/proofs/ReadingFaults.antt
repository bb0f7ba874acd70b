-- The faults of a task that only reads the count.
use Rattle.zh_program.specs.declared.fault.TaskFault.{TaskFault}
use Rattle.zh_program.specs.declared.fault.TaskFault.TheVariants as faults

-- The fault is neither one of opening an office nor one of its device.
abbrev pub IsOfReading : TaskFault → Type 0
IsOfReading (faults.Open fault) = ⊥
IsOfReading faults.Faulted = ⊥
IsOfReading fault = Unit {0}
