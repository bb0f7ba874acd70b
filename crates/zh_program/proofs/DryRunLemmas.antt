-- What a dry run has done, by its result.
use Rattle.std.proofs.Common.{◌≡◌, Result, Ok, Err, IfErr, refl}
use Rattle.zh_office.specs.declared.judgement.JudgementFault.{JudgementFault}
use Rattle.zh_office.specs.declared.judgement.JudgementFault.TheVariants as judging
use Rattle.zh_office.specs.declared.judgement.Forecast.{Forecast}
use Rattle.zh_program.specs.DryRun.{JudgedAs, JudgesText}
use Rattle.zh_program.specs.Load.{IsUnreadable}
use Rattle.zh_program.proofs.ReadingFaults.{IsOfReading}
use Rattle.zh_file.specs.declared.fault.FileFault.{FileFault}
use Rattle.zh_program.specs.declared.place.TaskFile.TheVariants as files
use Rattle.zh_program.specs.declared.fault.TaskFault.{TaskFault}
use Rattle.zh_program.specs.declared.fault.TaskFault.TheVariants as faults

-- The CSV file is reported only if a read of it failed.
pub read_failed : (fault : JudgementFault) (e : TaskFault) → JudgedAs fault e → e ≡ faults.Unreadable files.Csv → fault ≡ judging.Read
read_failed judging.Memory e is file = absurd cc
read_failed judging.Read e is file = refl
read_failed judging.Turns e is file = absurd cc
read_failed judging.Write e is file = absurd cc

-- The judgement was broken off.
pub broken_off : (Judged : Result Forecast JudgementFault → Type 0) (fault : JudgementFault) (e : TaskFault) → JudgedAs fault e → Judged (Err fault)
    → JudgesText Judged (Err e)
broken_off Judged judging.Memory e is broken = rw is (judging.Memory, refl, broken)
broken_off Judged judging.Read e is broken = rw is (judging.Read, refl, broken)
broken_off Judged judging.Turns e is broken = rw is (judging.Turns, refl, broken)
broken_off Judged judging.Write e is broken = rw is (judging.Write, refl, broken)

-- None of its faults is a fault of a disk.
judged_calm : (fault : JudgementFault) (e : TaskFault) → JudgedAs fault e → IsOfReading e
judged_calm judging.Memory e is = rw is tt
judged_calm judging.Read e is = rw is tt
judged_calm judging.Turns e is = rw is tt
judged_calm judging.Write e is = rw is tt

pub runs_calm : (Judged : Result Forecast JudgementFault → Type 0) (result : Result (Unit {0}) TaskFault) → JudgesText Judged result → IfErr result IsOfReading
runs_calm Judged (Ok done) by = tt
runs_calm Judged (Err faults.Refused) by = tt
runs_calm Judged (Err fault) (why, is, by) = judged_calm why fault is

pub unread_reading : (Met : FileFault → Type 0) (fault : TaskFault) → IsUnreadable Met fault → IsOfReading fault
unread_reading Met (faults.Unopened files.Csv cause) is = tt
unread_reading Met (faults.Unreadable files.Csv) is = tt
unread_reading Met faults.Memory is = tt
unread_reading Met fault is = absurd is
