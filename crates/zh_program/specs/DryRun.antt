-- A dry run of a load.
use Rattle.std.specs.Prelude.{◌≡◌, ◌<◌, ◌⊎◌, ℕ, List, Option, Some, Result, Ok, Err, IsErrAnd}
use Rattle.std.specs.Io.KnownBytes.{Keeps}
use Rattle.zh_office.specs.Judged.{Judges}
use Rattle.zh_office.specs.declared.judgement.JudgementFault.{JudgementFault}
use Rattle.zh_office.specs.declared.judgement.JudgementFault.TheVariants as judging
use Rattle.zh_office.specs.declared.judgement.Forecast.{Forecast}
use Rattle.zh_office.specs.declared.service.ServeFault.TheVariants as serving
use Rattle.zh_districts.specs.Canton.{Canton}
use Rattle.zh_returns.specs.Tally.{Tally}
use Rattle.zh_program.specs.Load.{IsUnreadable}
use Rattle.zh_program.specs.Reading.{MakesReading}
use Rattle.zh_program.specs.World.{AreCalls, IsMetAt, Known, WorldOf}
use Rattle.zh_program.specs.declared.place.TaskFile.TheVariants as files
use Rattle.zh_program.specs.declared.fault.TaskFault.{TaskFault}
use Rattle.zh_program.specs.declared.fault.TaskFault.TheVariants as faults

-- The fault of a judgement that was broken off, as the fault of the task.
abbrev pub JudgedAs : JudgementFault → TaskFault → Type 0
JudgedAs judging.Memory e = e ≡ faults.Memory
JudgedAs judging.Read e = e ≡ faults.Unreadable files.Csv
JudgedAs judging.Turns e = e ≡ faults.Serve serving.Turns
JudgedAs judging.Write e = e ≡ faults.Write

-- What a dry run has done, by its result, given what judging the text has done.
abbrev pub JudgesText : (Result Forecast JudgementFault → Type 0) → Result (Unit {0}) TaskFault → Type 0
JudgesText Judged (Ok done) =
    (forecast : Forecast) × (forecast.refused ≡ 0) × Judged (Ok forecast)
JudgesText Judged (Err faults.Refused) = (forecast : Forecast) × (0 < forecast.refused) × Judged (Ok forecast)
JudgesText Judged (Err fault) = (why : JudgementFault) × JudgedAs why fault × Judged (Err why)

-- A dry run of loading the CSV file at this path, on this count. One call is made of the files, for this file. Either its text,
-- which may be unknown, is judged; or the file gives no text and nothing is written.
pub record HasDryRun (of : Known) (csv : List ℕ) (tally : Tally) (old new : WorldOf of)
    (result : Result (Unit {0}) TaskFault) : Type 0 where
  pub rest : new ≡ record old { output = new.output; files = new.files }
  pub call : AreCalls of.files 1 old.files new.files
  pub text : Option (List ℕ)
  pub read : Keeps (of.files.text_at old.files csv) text
  pub judged : JudgesText
      (Judges tally (λ bytes. text ≡ Some bytes) (of.writers.contents old.output) (of.writers.contents new.output)) result
      ⊎ (IsErrAnd result (IsUnreadable (IsMetAt of.files csv old.files new.files)) × (new.output ≡ old.output))

-- The dry run on the count of the office on a disk.
abbrev pub MakesDryRun : (of : Known) → List ℕ → Canton → WorldOf of × of.Disk → WorldOf of × of.Disk → Result (Unit {0}) TaskFault → Type 0
MakesDryRun of csv = MakesReading of (HasDryRun of csv)
