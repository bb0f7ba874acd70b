-- Formatting a disk.
use Rattle.std.specs.Prelude.{◌≡◌, ◌⊎◌, Bool, true, false, List, [], ℕ, nat_lt, Result, Ok, Err, IfErr, IsErrOf, OnOk}
use Rattle.zh_districts.specs.Canton.{Canton}
use Rattle.zh_districts.specs.Spelling.{setup_spelling}
use Rattle.zh_returns.specs.declared.command.Format.TheVariants.{Two}
use Rattle.zh_returns.specs.Tally.{empty}
use Rattle.zh_returns.specs.Payload.{payload_spelling}
use Rattle.zh_disk.specs.Disk.{Trail, IsImage, Leaves}
use Rattle.zh_disk.specs.History.{Call}
use Rattle.zh_snapshot.specs.Image.{IsBlank}
use Rattle.zh_snapshot.specs.Store.{Settles}
use Rattle.zh_snapshot.specs.Format.{Formats}
use Rattle.zh_snapshot.specs.declared.fault.FormatFault as store
use Rattle.zh_snapshot.specs.declared.fault.FormatFault.TheVariants as of_store
use Rattle.zh_ledger.specs.Opened.{IsNew}
use Rattle.zh_tables.specs.Problems.{AreProblems, problem_count, problems_line}
use Rattle.zh_tables.specs.declared.problems.SetupProblems.{SetupProblems}
use Rattle.zh_program.specs.Remarks.{BecameOf}
use Rattle.zh_program.specs.World.{Known, WorldOf}
use Rattle.zh_program.specs.declared.fault.TaskFault.{TaskFault}
use Rattle.zh_program.specs.declared.fault.TaskFault.TheVariants as faults

-- The fault of formatting a store, as the fault of the task.
abbrev pub FormattedAs : store.FormatFault → TaskFault → Type 0
FormattedAs of_store.Memory e = e ≡ faults.Memory
FormattedAs of_store.Device e = e ≡ faults.Device

-- Whether a formatting reports a fault of the device.
abbrev pub format_fails : Result (Unit {0}) TaskFault → Bool
format_fails (Err faults.Device) = true
format_fails result = false

-- A formatting only fails for memory, for the device, or because the disk is in use.
abbrev pub IsOfFormat : TaskFault → Type 0
IsOfFormat faults.Memory = Unit {0}
IsOfFormat faults.Device = Unit {0}
IsOfFormat faults.InUse = Unit {0}
IsOfFormat fault = ⊥

-- What a formatting leaves of a disk, moment by moment: it is opened, and formatted only if it is blank. If memory is refused,
-- it is only opened.
pub record FormatsBlank (canton : Canton) (result : Result (Unit {0}) TaskFault) (old new : Trail) : Type 0 where
  pub opened : Trail
  pub opening : Leaves (Settles old.now.bytes) old opened
  pub after : (new ≡ opened)
      ⊎ (IsBlank old.now.bytes × Formats (setup_spelling canton) (payload_spelling Two (empty canton)) opened new)
  pub blank : OnOk result (IsBlank old.now.bytes)
  pub formatted : OnOk result ((c : List ℕ) → IsImage new.now c → IsNew canton c)
  pub settled : OnOk result (new.now.pending ≡ [])
  pub in_use : IsErrOf result faults.InUse → IsBlank old.now.bytes → ⊥
  pub unformatted : IsErrOf result faults.Memory → new ≡ opened

-- The first of the two if the flag is true, otherwise the second.
abbrev pub SaysIf : Bool → Type 0 → Type 0 → Type 0
SaysIf true said unsaid = said
SaysIf false said unsaid = unsaid

-- What is said after a disk was formatted: how many problems the set-up has, or nothing if it has none.
abbrev pub SaysProblems : Canton → (List ℕ → Type 0) → Type 0 → Result (Unit {0}) TaskFault → Type 0
SaysProblems canton Said unsaid (Ok done) = (problems : SetupProblems) × AreProblems canton problems
    × SaysIf (nat_lt 0 (problem_count problems)) (Said (problems_line (problem_count problems))) unsaid
SaysProblems canton Said unsaid (Err fault) = unsaid

-- A disk is formatted if it is blank, with a remark on problems. Nothing else in the world changes.
pub record Formatted (of : Known) (canton : Canton) (before after : WorldOf of × of.Disk)
    (result : Result (Unit {0}) TaskFault) : Type 0 where
  pub rest : after.0 ≡ record before.0 { faults = after.0.faults; remark = after.0.remark }
  pub said : SaysProblems canton (BecameOf after.0.remark (of.errors.contents before.0.faults) (of.errors.contents after.0.faults))
      ((after.0.faults ≡ before.0.faults) × (after.0.remark ≡ before.0.remark)) result
  pub call : Call format_fails (FormatsBlank canton) (of.disks.history before.1) (of.disks.history after.1) result
  pub fault : IfErr result IsOfFormat
