-- Texts that are read one after another.
use Rattle.std.proofs.Common.{◌∙◌, ◌+◌, ℕ, List, Ok, Err, arith, refl, inl, inr, subst, sym}
use Rattle.zh_file.specs.Failures.{ForgetsNone}
use Rattle.zh_file.specs.Files.{IsReadOfFiles, LeavesNoMore}
use Rattle.zh_file.proofs.CallerLemmas.{goes_both, goes_itself}
use Rattle.zh_file.specs.declared.files.Files.{Ghosts as Files}
use Rattle.zh_file.specs.declared.fault.FileCause.{FileCause}
use Rattle.zh_file.specs.declared.fault.FileFault.{FileFault}
use Rattle.zh_file.specs.declared.fault.FileFault.TheVariants as of_files
use Rattle.zh_program.specs.Texts.{IsUnopened, ReadsText, TextKind}
use Rattle.zh_program.specs.World.{AreCalls, IsMetAt}
use Rattle.zh_program.specs.declared.fault.TaskFault.{TaskFault}
use Rattle.zh_program.specs.declared.fault.TaskFault.TheVariants as faults
use Rattle.zh_program.specs.declared.place.TaskFile.{TaskFile}

-- What holds of every fault by which a text is not opened.
pub unopened_as : (role : TaskFile) (Met : FileFault → Type 0) (P : TaskFault → Type 0) → P faults.Memory
    → ((cause : FileCause) → Met (of_files.Device cause) → P (faults.Unopened role cause))
    → (fault : TaskFault) → IsUnopened role Met fault → P fault
unopened_as role Met P memory other fault (inl is) = subst P (sym is) memory
unopened_as role Met P memory other fault (inr (cause, is, met)) = subst P (sym is) (other cause met)

module _ {F T D R : Type 0} (files : Files F T D R) where
  pub no_calls : (old : F) → AreCalls files 0 old old
  no_calls old = record { counted = omega arith; texts = refl; disks = refl; stays = refl; leaves = λ c here. here; goes = goes_itself (files.failed old) }

  pub one_call : (old new : F) → IsReadOfFiles files.text_at files.disk_at files.places files.calls old new → LeavesNoMore (files.left old) (files.left new)
      → ForgetsNone (files.failed old) (files.failed new) → AreCalls files 1 old new
  one_call old new one leaves goes = record { counted = one.counted; texts = one.texts; disks = one.disks; stays = one.stays; leaves = leaves; goes = goes }

  -- Calls followed by calls.
  pub calls_after : (n m : ℕ) (old mid new : F) → AreCalls files n old mid → AreCalls files m mid new → AreCalls files (n + m) old new
  calls_after n m old mid new one other = record {
    counted = omega (arith, one.counted, other.counted);
    texts = other.texts ∙ one.texts;
    disks = other.disks ∙ one.disks;
    stays = other.stays ∙ one.stays;
    leaves = λ c here. one.leaves c (other.leaves c here);
    goes = goes_both (files.failed old) (files.failed mid) (files.failed new) one.goes other.goes;
  }

  module _ {X : Type 0} (kind : TextKind X) (path : List ℕ) (old new : F) (one : AreCalls files 1 old new) where
    -- A text was read.
    pub gives : (x : X) → kind.Gives (files.text_at old path) x → ReadsText files kind path old new (Ok x)
    gives x is = record { call = one; read = is }

    -- The text gave nothing.
    pub lacks : (fault : TaskFault) → kind.Lacks (files.text_at old path) (IsMetAt files path old new) fault → ReadsText files kind path old new (Err fault)
    lacks fault is = record { call = one; read = is }
