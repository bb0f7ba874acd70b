-- What a task that only reads a count has done, by its result.
use Rattle.std.proofs.Common.{◌≡◌, Result, Ok, Err, IfErr, refl}
use Rattle.zh_disk.specs.History.{History}
use Rattle.zh_districts.specs.Canton.{Canton}
use Rattle.zh_ledger.specs.Opening.{Opening}
use Rattle.zh_ledger.specs.Submissions.{OnDisk, on_disk}
use Rattle.zh_ledger.specs.declared.opening.OpenFault.{OpenFault}
use Rattle.zh_office.specs.DeskBatches.{no_batches}
use Rattle.zh_office.specs.Office.{Office}
use Rattle.zh_returns.specs.Tally.{Tally}
use Rattle.zh_program.specs.Opened.{IsFrom, IsOfDevice, WithOffice}
use Rattle.zh_program.specs.Reading.{MakesReading}
use Rattle.zh_program.proofs.ReadingFaults.{IsOfReading}
use Rattle.zh_program.specs.World.{Known, WorldOf}
use Rattle.zh_program.specs.declared.fault.TaskFault.{TaskFault}
use Rattle.zh_program.specs.declared.fault.TaskFault.TheVariants as faults
use Rattle.zh_program.proofs.StartLemmas.{leaves_after, refused_leaves, starts, untouched_leaves}

-- Its fault is not one of opening the office.
with_reading : (canton : Canton) (first last : History) (nothing : Type 0)
    (Does : (OnDisk Office → OnDisk Office → Type 0) → Result (Unit {0}) TaskFault → Type 0) (result : Result (Unit {0}) TaskFault)
    → IfErr result IsOfReading → Does (IsFrom canton first last) result → WithOffice canton first last nothing Does result
with_reading canton first last nothing Does (Ok done) calm by = by
with_reading canton first last nothing Does (Err (faults.Open fault)) calm by = absurd calm
with_reading canton first last nothing Does (Err fault) calm by = by

-- Its fault is not one of the device.
reading_calm : (result : Result (Unit {0}) TaskFault) → IfErr result IsOfReading → IfErr result (λ fault. IsOfDevice fault → ⊥)
reading_calm (Ok done) calm = tt
reading_calm (Err (faults.Open fault)) calm = absurd calm
reading_calm (Err faults.Faulted) calm = absurd calm
reading_calm (Err fault) calm = λ is. is

module _ (of : Known) (Reads : Tally → WorldOf of → WorldOf of → Result (Unit {0}) TaskFault → Type 0) (canton : Canton) (old : WorldOf of)
    (disk last : of.Disk) where
  abbrev first : History
  first = of.disks.history disk

  abbrev ended : History
  ended = of.disks.history last

  -- No office was opened.
  pub not_opened : (fault : OpenFault) → Opening canton first ended (Err fault) → MakesReading of Reads canton (old, disk) (old, last) (Err (faults.Open fault))
  not_opened fault opening = record { read = (refl, opening); stays = refl; disk = refused_leaves canton first ended fault opening }

  -- The count of an opened office was read.
  pub was_read : (office : Office) → Opening canton first ended (Ok office.ledger) → office.held ≡ no_batches
      → (new : WorldOf of) (result : Result (Unit {0}) TaskFault) → Reads office.ledger.tally old new result
      → of.files.places new.files ≡ of.files.places old.files → IfErr result IsOfReading
      → MakesReading of Reads canton (old, disk) (new, last) result
  was_read office opening held new result done stays calm =
      let start = on_disk office ended in
      let begins : IsFrom canton first ended start start
      = record { begun = starts canton first start opening held; ended = refl; honest = λ h. h } in
      let Does = λ (Spans : OnDisk Office → OnDisk Office → Type 0) (end : Result (Unit {0}) TaskFault).
      (s : OnDisk Office) × Spans s s × Reads s.holder.ledger.tally old new end in
      record {
        read = with_reading canton first ended (new ≡ old) Does result calm (start, begins, done);
        stays = stays;
        disk = leaves_after canton first ended ended office.ledger result opening (untouched_leaves ended result (reading_calm result calm));
      }
