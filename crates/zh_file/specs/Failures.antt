-- The calls that failed, and the fault for each of them.
use Rattle.std.specs.Prelude.{◌≡◌, ℕ, List, ◌∷◌, ◌++◌, Result, IfErr}
use Rattle.std.specs.IoError.{error_kind}
use Rattle.std.specs.declared.io.Error.{Error}
use Rattle.std.specs.declared.io.ErrorKind.TheVariants.{OutOfMemory}
use Rattle.sqlite_std_file.specs.declared.pair.OpenError.{OpenError}
use Rattle.sqlite_std_file.specs.declared.pair.OpenError.TheVariants as opening
use Rattle.zh_film.specs.Past.{items}
use Rattle.zh_file.specs.Causes.{fault_of_found, fault_of_kind, fault_of_locking}
use Rattle.zh_file.specs.declared.fault.FileCause.TheVariants as causes
use Rattle.zh_file.specs.declared.fault.FileFault.{FileFault}
use Rattle.zh_file.specs.declared.fault.FileFault.TheVariants as faults
use Rattle.zh_file.specs.declared.notes.Failure.{Failure}
use Rattle.zh_file.specs.declared.notes.Setback.{Setback}
use Rattle.zh_file.specs.declared.notes.Setback.TheVariants as setbacks

-- a call that failed: its path, and how it failed
pub record FailedCall : Type 0 where
  pub path : List ℕ
  pub setback : Setback

abbrev pub failed_call : Failure → FailedCall
failed_call noted = record { path = items noted.path; setback = noted.setback }

-- the fault for a setback
abbrev pub setback_fault : Setback → FileFault
setback_fault (setbacks.Asked kind) = fault_of_kind kind
setback_fault (setbacks.Locking kind) = fault_of_locking kind
setback_fault (setbacks.Used kind) = fault_of_found kind
setback_fault setbacks.Busy = faults.Busy
setback_fault setbacks.Journal = faults.Device causes.Journal
setback_fault setbacks.Unfit = faults.Device causes.Failed

-- Two lists of failed calls, each with the latest first: the new one has all calls of the old one.
pub record ForgetsNone (old new : List FailedCall) : Type 0 where
  pub later : List FailedCall
  pub is : new ≡ later ++ old

-- this call failed between the old list and the new one
pub record FailsBetween (call : FailedCall) (old new : List FailedCall) : Type 0 where
  pub before : List FailedCall
  pub begun : ForgetsNone old before
  pub goes : ForgetsNone (call ∷ before) new

-- a call at this path failed in between, and this is its fault
pub record IsOfCall (path : List ℕ) (fault : FileFault) (old new : List FailedCall) : Type 0 where
  pub setback : Setback
  pub failed : FailsBetween (record { path = path; setback = setback }) old new
  pub is : fault ≡ setback_fault setback

-- The fault of a file is that of a call at its path that failed in between. That it has a wrong length, is a folder or is not an
-- ordinary file can also be found by a call that does not fail.
abbrev pub IsMet : List ℕ → FileFault → List FailedCall → List FailedCall → Type 0
IsMet path (faults.Size n) old new = Unit {0}
IsMet path (faults.Device causes.Folder) old new = Unit {0}
IsMet path (faults.Device causes.Special) old new = Unit {0}
IsMet path fault old new = IsOfCall path fault old new

-- the failed calls before and after something was done at this path with this result
pub record Meets {T : Type 0} (path : List ℕ) (result : Result T FileFault) (old new : List FailedCall) : Type 0 where
  pub goes : ForgetsNone old new
  pub fault : IfErr result (λ fault. IsMet path fault old new)

-- the fault for a failed lock
abbrev pub fault_of_opening : OpenError → FileFault
fault_of_opening (opening.Io error) = fault_of_locking (error_kind error)
fault_of_opening opening.OutOfMemory = faults.Memory
fault_of_opening opening.Busy = faults.Busy
fault_of_opening opening.HotJournal = faults.Device causes.Journal

-- how a call at a path failed, by its error
abbrev pub asked_with : Error → Setback
asked_with error = setbacks.Asked (error_kind error)

-- how a lock failed, by its error
abbrev pub locked_with : OpenError → Setback
locked_with (opening.Io error) = setbacks.Locking (error_kind error)
locked_with opening.OutOfMemory = setbacks.Locking OutOfMemory
locked_with opening.Busy = setbacks.Busy
locked_with opening.HotJournal = setbacks.Journal
