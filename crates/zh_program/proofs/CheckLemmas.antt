-- What a check reads and answers.
use Rattle.std.proofs.Common.{◌≡◌, ◌≤◌, ℕ, List, length, take, Option, Some, None, Result, Ok, Err, IfErr, sym, subst, arith}
use Rattle.std.proofs.lemmas.List.{length-take, take_all}
use Rattle.zh_districts.specs.Canton.{Canton}
use Rattle.zh_csv.specs.declared.held_sums.HeldSums.{HeldSums}
use Rattle.zh_file.specs.declared.files.Files.{Ghosts as Files}
use Rattle.zh_program.specs.World.{AreCalls}
use Rattle.zh_program.specs.Check.{IsOfSheet, LacksSheetFile, ReadsHeld}
use Rattle.zh_file.specs.declared.fault.FileFault.{FileFault}
use Rattle.zh_program.specs.declared.fault.TaskFault.{TaskFault}
use Rattle.zh_program.specs.declared.fault.TaskFault.TheVariants as faults
use Rattle.zh_program.specs.declared.place.TaskFile.TheVariants as files
use Rattle.zh_program.proofs.TextLemmas.{no_calls}

-- A fault of an opened file that gives no sheet is a fault of a file that gives none.
opened_lacks : (Met : FileFault → Type 0) (fault : TaskFault) → IsOfSheet fault → LacksSheetFile Met fault
opened_lacks Met (faults.Unreadable files.Sheet) is = tt
opened_lacks Met faults.Memory is = tt
opened_lacks Met fault is = absurd is

pub opened_result : {X : Type 0} (Met : FileFault → Type 0) (result : Result X TaskFault) → IfErr result IsOfSheet → IfErr result (LacksSheetFile Met)
opened_result Met (Ok text) is = tt
opened_result Met (Err fault) is = opened_lacks Met fault is

-- An export is read in at most one call.
pub held_calls : {F T D R : Type 0} (files : Files F T D R) (canton : Canton) (path : Option (List ℕ)) (old new : F) (result : Result (Option HeldSums) TaskFault)
    → ReadsHeld files canton path old new result → (n : ℕ) × (n ≤ 1) × AreCalls files n old new
held_calls {F} files canton None old new result none = (0, omega arith, subst (λ (f : F). AreCalls files 0 old f) (sym none.0) (no_calls files old))
held_calls files canton (Some path) old new (Ok None) by = absurd by
held_calls files canton (Some path) old new (Ok (Some sums)) by = (1, omega arith, by.call)
held_calls files canton (Some path) old new (Err fault) by = (1, omega arith, by.call)

-- A prefix shorter than the 280,065 bytes asked for is the whole text.
pub front_is_whole : (text : List ℕ) → length (take 280065 text) ≤ 280064 → take 280065 text ≡ text
front_is_whole text short = take_all 280065 text (omega (arith, length-take 280065 text, short))
