-- What a task that only reads a count leaves.
use Rattle.std.specs.Prelude.{◌≡◌, Result}
use Rattle.zh_districts.specs.Canton.{Canton}
use Rattle.zh_ledger.specs.Submissions.{OnDisk}
use Rattle.zh_office.specs.Office.{Office}
use Rattle.zh_returns.specs.Tally.{Tally}
use Rattle.zh_program.specs.Opened.{LeavesDisk, WithOffice}
use Rattle.zh_program.specs.World.{Known, WorldOf}
use Rattle.zh_program.specs.declared.fault.TaskFault.{TaskFault}

-- An office was opened on a disk and this was done with its count; or opening it failed and nothing was done. Nothing else was
-- done to the disk, and no file is touched.
pub record MakesReading (of : Known) (Reads : Tally → WorldOf of → WorldOf of → Result (Unit {0}) TaskFault → Type 0)
    (canton : Canton) (before after : WorldOf of × of.Disk) (result : Result (Unit {0}) TaskFault) : Type 0 where
  pub read : WithOffice canton (of.disks.history before.1) (of.disks.history after.1) (after.0 ≡ before.0)
      (λ Spans end. (start : OnDisk Office) × Spans start start × Reads start.holder.ledger.tally before.0 after.0 end) result
  pub stays : of.files.places after.0.files ≡ of.files.places before.0.files
  pub disk : LeavesDisk (of.disks.history before.1) (of.disks.history after.1) result
