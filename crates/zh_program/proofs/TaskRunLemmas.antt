-- What a task has done with an office, by its result.
use Rattle.std.proofs.Common.{ℕ, List, Option, Result, Ok, Err}
use Rattle.zh_districts.specs.Canton.{Canton}
use Rattle.zh_disk.specs.History.{History}
use Rattle.zh_film.specs.Frames.{Frame}
use Rattle.zh_ledger.specs.declared.opening.OpenFault.{OpenFault}
use Rattle.zh_ledger.specs.Submissions.{OnDisk}
use Rattle.zh_office.specs.Office.{Office}
use Rattle.zh_office.specs.declared.service.ServeFault.TheVariants as serving
use Rattle.zh_program.specs.Opened.{IsFrom, WithOffice}
use Rattle.zh_program.specs.Run.{RunsWithin, UsesUpReads}
use Rattle.zh_program.specs.declared.fault.TaskFault.{TaskFault}
use Rattle.zh_program.specs.declared.fault.TaskFault.TheVariants as faults

-- A run that ended with `turns` has used up its reads.
pub uses_up : (film : List Frame) (r r' : Option (List ℕ)) (limit : ℕ) (result : Result (Unit {0}) TaskFault) → RunsWithin result film r r' limit → UsesUpReads result film r r' limit
uses_up film r r' limit (Err (faults.Serve serving.Turns)) within = within
uses_up film r r' limit result within = tt

-- What was done with an office, if its fault is not one of opening it.
pub with_office : (canton : Canton) (first last : History) (nothing : Type 0)
    (Does : (OnDisk Office → OnDisk Office → Type 0) → Result (Unit {0}) TaskFault → Type 0) (result : Result (Unit {0}) TaskFault)
    → ((fault : OpenFault) → Does (IsFrom canton first last) (Err (faults.Open fault)) → ⊥)
    → Does (IsFrom canton first last) result → WithOffice canton first last nothing Does result
with_office canton first last nothing Does (Ok done) never by = by
with_office canton first last nothing Does (Err (faults.Open fault)) never by = absurd (never fault by)
with_office canton first last nothing Does (Err fault) never by = by
