-- The faults for failed calls, over the steps of an opening.
use Rattle.std.proofs.Common.{◌≡◌, ◌≢◌, ◌∙◌, ◌∷◌, ◌++◌, ◌&&◌, ℕ, List, [], Bool, true, false, IsTrue, Result, Ok, Err, length, map, refl, sym, subst, ap, inl, inr, ⊎_elim}
use Rattle.std.specs.Prelude.{nat_eq, IsErrAnd, MatchResult}
use Rattle.std.proofs.lemmas.Bool.Decides.{eqb_tells}
use Rattle.std.proofs.lemmas.Result.{err_from_is_err_and}
use Rattle.std.specs.IoError.{error_kind}
use Rattle.std.specs.declared.io.Error.{Error}
use Rattle.std.specs.declared.io.ErrorKind.{ErrorKind}
use Rattle.sqlite_disk.specs.declared.Disk.{Ghosts}
use Rattle.sqlite_std_file.specs.declared.pair.OpenError.{OpenError}
use Rattle.sqlite_std_file.specs.declared.pair.OpenError.TheVariants as opening
use Rattle.zh_disk.specs.Disk.{disk_length}
use Rattle.zh_file.specs.Causes.{fault_of_found, fault_of_kind}
use Rattle.zh_file.specs.Failures.{FailedCall, ForgetsNone, FailsBetween, Meets, setback_fault}
use Rattle.zh_film.specs.Past.{items}
use Rattle.zh_file.specs.declared.fault.FileCause.TheVariants as causes
use Rattle.zh_file.specs.declared.fault.FileFault.{FileFault}
use Rattle.zh_file.specs.declared.fault.FileFault.TheVariants as faults
use Rattle.zh_file.specs.declared.notes.Setback.{Setback}
use Rattle.zh_file.specs.declared.notes.Setback.TheVariants as setbacks
use Rattle.zh_file.proofs.PlaceLemmas.{failed_within, goes_itself, goes_more, goes_same, meets_just, met_by, met_just}
use Rattle.zh_file.specs.Failures.{asked_with, fault_of_opening, locked_with}
use Rattle.zh_file.specs.Folder.{noted_at}
use Rattle.zh_file.specs.Locked.{IsAmong, IsFaultOf, is_fit, kinds_after, noted_all, setbacks_of, unless_fit}
use Rattle.zh_file.specs.declared.stored.locked.Locked.{Locked}

lock_fault : (error : OpenError) → fault_of_opening error ≡ setback_fault (locked_with error)
lock_fault (opening.Io error) = refl
lock_fault opening.OutOfMemory = refl
lock_fault opening.Busy = refl
lock_fault opening.HotJournal = refl

module _ {T E : Type 0} (path : List ℕ) (setback_of : E → Setback) where
  pub call_goes : (done : Result T E) (old new : List FailedCall) → new ≡ noted_at path setback_of done old → ForgetsNone old new
  call_goes (Ok it) old new is = goes_same old new is
  call_goes (Err error) old new is = subst (λ (calls : List FailedCall). ForgetsNone old calls) (sym is) (goes_more (record { path = path; setback = setback_of error }) old)

module _ {S : Type 0} (path : List ℕ) (old new : List FailedCall) where
  -- a call at the path that failed
  pub asked_meets : (error : Error) → new ≡ record { path = path; setback = asked_with error } ∷ old → Meets {T = S} path (Err (fault_of_kind (error_kind error))) old new
  asked_meets error is = meets_just path (asked_with error) (fault_of_kind (error_kind error)) old new is
      (met_just path (asked_with error) (fault_of_kind (error_kind error)) old (record { path = path; setback = asked_with error } ∷ old) refl refl)

  pub lock_meets : (error : OpenError) → new ≡ record { path = path; setback = locked_with error } ∷ old → Meets {T = S} path (Err (fault_of_opening error)) old new
  lock_meets error is = meets_just path (locked_with error) (fault_of_opening error) old new is
      (met_just path (locked_with error) (fault_of_opening error) old (record { path = path; setback = locked_with error } ∷ old) refl (lock_fault error))

module _ {T : Type 0} (path : List ℕ) (old new : List FailedCall) where
  -- something that succeeded
  pub done_meets : (it : T) → ForgetsNone old new → Meets path (Ok it) old new
  done_meets it goes = record { goes = goes; fault = tt }

  -- the length of the file at the path is not that of a disk
  pub length_meets : (n : ℕ) → ForgetsNone old new → Meets {T = T} path (Err (faults.Size n)) old new
  length_meets n goes = record { goes = goes; fault = tt }

  pub folder_meets : ForgetsNone old new → Meets {T = T} path (Err (faults.Device causes.Folder)) old new
  folder_meets goes = record { goes = goes; fault = tt }

  pub special_meets : ForgetsNone old new → Meets {T = T} path (Err (faults.Device causes.Special)) old new
  special_meets goes = record { goes = goes; fault = tt }

-- each setback that is noted at a path is that of a call that failed
failed_in : (path : List ℕ) (setback : Setback) (all : List Setback) (old : List FailedCall) → IsAmong setback all
    → FailsBetween (record { path = path; setback = setback }) old (noted_all path all old)
failed_in path setback [] old is = absurd is
failed_in path setback (first ∷ others) old is = ⊎_elim
    (λ here. subst (λ (s : Setback). FailsBetween (record { path = path; setback = setback }) old (record { path = path; setback = s } ∷ noted_all path others old)) (sym here)
    (record {
      before = noted_all path others old;
      begun = record { later = map (λ s. record { path = path; setback = s }) others; is = refl };
      goes = goes_itself (record { path = path; setback = setback } ∷ noted_all path others old);
    }))
    (λ later. failed_within (record { path = path; setback = setback }) old old (noted_all path others old) (record { path = path; setback = first } ∷ noted_all path others old)
    (goes_itself old) (goes_more (record { path = path; setback = first }) (noted_all path others old)) (failed_in path setback others old later))
    is

-- a file was unlocked, and its setbacks were noted
pub unlocked_goes : (path : List ℕ) (all : List Setback) (old new : List FailedCall) → new ≡ noted_all path all old → ForgetsNone old new
unlocked_goes path all old new is = record { later = map (λ s. record { path = path; setback = s }) all; is = is }

pub unlocked_meets : {T : Type 0} (path : List ℕ) (all : List Setback) (fault : FileFault) (old new : List FailedCall) → new ≡ noted_all path all old → IsFaultOf all fault
    → Meets {T = T} path (Err fault) old new
unlocked_meets {T} path all fault old new is by = subst (λ (calls : List FailedCall). Meets {T = T} path (Err fault) old calls) (sym is) (record {
  goes = unlocked_goes path all old (noted_all path all old) refl;
  fault = met_by path fault old (noted_all path all old) (record { setback = by.0; failed = failed_in path by.0 all old by.1; is = by.2 });
})

among_used : (kind : ErrorKind) (kinds : List ErrorKind) → IsAmong kind kinds → IsAmong (setbacks.Used kind) (map setbacks.Used kinds)
among_used kind [] is = absurd is
among_used kind (first ∷ others) is = ⊎_elim (λ here. inl (ap setbacks.Used here)) (λ later. inr (among_used kind others later)) is

among_after : (setback : Setback) (front rest : List Setback) → IsAmong setback rest → IsAmong setback (front ++ rest)
among_after setback [] rest is = is
among_after setback (first ∷ others) rest is = inr (among_after setback others rest is)

-- the fault for an error of a call of the file is that of a setback
pub used_fault : {D : Type 0} (g : Ghosts D) (l : Locked D) (kind : ErrorKind) → IsAmong kind (items l.failed) → IsFaultOf (setbacks_of g l) (fault_of_found kind)
used_fault g l kind is = (setbacks.Used kind, among_after (setbacks.Used kind) (unless_fit (is_fit g l.file)) (map setbacks.Used (items l.failed)) (among_used kind (items l.failed) is), refl)

not_fit : (clean : Bool) (size n : ℕ) → (IsTrue clean → n ≡ size) → n ≢ disk_length → (clean && nat_eq size disk_length) ≡ false
not_fit false size n told other = refl
not_fit true size n told other = ⊎_elim (λ same. absurd (other (told refl ∙ same.1))) (λ far. far.0) (eqb_tells size disk_length)

unfit_first : (fit : Bool) (rest : List Setback) → fit ≡ false → IsAmong setbacks.Unfit (unless_fit fit ++ rest)
unfit_first true rest is = absurd cc
unfit_first false rest is = inl refl

-- the fault for a file that does not have the length of a disk is that of a setback
pub unfit_fault : {D : Type 0} (g : Ghosts D) (l : Locked D) (n : ℕ) → (IsTrue (g.is_clean l.file) → n ≡ length (g.seen l.file)) → n ≢ disk_length
    → IsFaultOf (setbacks_of g l) (faults.Device causes.Failed)
unfit_fault g l n told other = (setbacks.Unfit, unfit_first (is_fit g l.file) (map setbacks.Used (items l.failed)) (not_fit (g.is_clean l.file) (length (g.seen l.file)) n told other), refl)

-- an error before one more call is an error after it
pub kinds_before : {T : Type 0} (done : Result T Error) (kind : ErrorKind) (kinds : List ErrorKind) → IsAmong kind kinds → IsAmong kind (kinds_after done kinds)
kinds_before (Ok it) kind kinds is = is
kinds_before (Err error) kind kinds is = inr is

-- the kind of the error of the last call
pub last_kind : {T : Type 0} (result : Result T Error) (error : Error) (old new : List ErrorKind) → result ≡ Err error → new ≡ kinds_after result old → IsAmong (error_kind error) new
last_kind {T} result error old new is after = subst (λ (kinds : List ErrorKind). IsAmong (error_kind error) kinds) (sym (after ∙ ap (λ (r : Result T Error). kinds_after r old) is)) (inl refl)

-- a call that asked for a text
pub text_meets : {T : Type 0} (path : List ℕ) (done : Result T Error) (result : Result T FileFault) (old new : List FailedCall) → new ≡ noted_at path asked_with done old
    → MatchResult done (λ text. result ≡ Ok text) (λ error. IsErrAnd result (λ fault. fault ≡ fault_of_kind (error_kind error))) → Meets path result old new
text_meets {T} path (Ok text) result old new is by = subst (λ (r : Result T FileFault). Meets path r old new) (sym by) (done_meets path old new text (goes_same old new is))
text_meets {T} path (Err error) result old new is by =
    let met = err_from_is_err_and result by in
    subst (λ (r : Result T FileFault). Meets path r old new) (sym met.1)
    (subst (λ (fault : FileFault). Meets {T = T} path (Err fault) old new) (sym met.2) (asked_meets path old new error is))
