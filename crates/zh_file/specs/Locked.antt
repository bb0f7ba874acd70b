-- What the calls of a locked file do, and what a stop can have left of it at any moment since its lock.
use Rattle.std.specs.IoError.{error_kind}
use Rattle.std.specs.Prelude.{◌≡◌, ◌≤◌, ◌⊎◌, ◌&&◌, ℕ, List, [], ◌∷◌, ◌++◌, Bool, true, false, IsTrue, Result, Ok, Err, length, map, nat_eq}
use Rattle.std.specs.declared.io.Error.{Error}
use Rattle.std.specs.declared.io.ErrorKind.{ErrorKind}
use Rattle.sqlite_disk.specs.Disk.{CountsFault, Follows, Only}
use Rattle.sqlite_disk.specs.declared.Disk.{Ghosts}
use Rattle.zh_disk.specs.Disk.{disk_length}
use Rattle.zh_file.specs.Failures.{FailedCall, setback_fault}
use Rattle.zh_file.specs.declared.fault.FileFault.{FileFault}
use Rattle.zh_file.specs.declared.notes.Setback.{Setback}
use Rattle.zh_file.specs.declared.notes.Setback.TheVariants as setbacks
use Rattle.zh_film.specs.Past.{items}
use Rattle.zh_file.specs.declared.stored.locked.Locked.{Locked}

-- what the file was at each moment, the latest first
abbrev pub moments : {D : Type 0} → Locked D → List D
moments l = l.file ∷ items l.before

-- a stop at one of these moments can leave this
abbrev pub IsLeftAt : {D : Type 0} → (D → List ℕ → Type 0) → List D → List ℕ → Type 0
IsLeftAt may_leave [] c = ⊥
IsLeftAt may_leave (d ∷ ds) c = may_leave d c ⊎ IsLeftAt may_leave ds c

-- all answers of the file were right, and a stop since its lock can have left this
abbrev pub IsLeftOf : {D : Type 0} → Ghosts D → Locked D → List ℕ → Type 0
IsLeftOf g l c = IsTrue (g.is_clean l.file) × IsLeftAt g.may_leave (moments l) c

-- the same for one of these files
abbrev pub IsLeftOfOne : {D : Type 0} → Ghosts D → List (Locked D) → List ℕ → Type 0
IsLeftOfOne g [] c = ⊥
IsLeftOfOne g (l ∷ ls) c = IsLeftOf g l c ⊎ IsLeftOfOne g ls c

-- a stop since the lock can have left only what satisfies `IsLeft`
abbrev pub LeavesOnly : {D : Type 0} → Ghosts D → (List ℕ → Type 0) → Locked D → Type 0
LeavesOnly g IsLeft l = (c : List ℕ) → IsLeftOf g l c → IsLeft c

-- no longer than a disk
abbrev pub IsShort : List ℕ → Type 0
IsShort c = length c ≤ disk_length

-- the kinds of the errors of the failed calls, after a call with this answer
abbrev pub kinds_after : {T : Type 0} → Result T Error → List ErrorKind → List ErrorKind
kinds_after (Ok done) before = before
kinds_after (Err error) before = error_kind error ∷ before

-- One call of a locked file with this answer, which it notes: what a read gives follows by `step` from what a read gave before, and
-- what a stop can leave from what a stop could leave before.
pub record IsNotedCall {D T : Type 0} (g : Ghosts D) (step : List ℕ → List ℕ → Type 0) (result : Result T Error)
    (old new : Locked D) : Type 0 where
  pub noted : items new.before ≡ moments old
  pub failed : items new.failed ≡ kinds_after result (items old.failed)
  pub kept : IsTrue (g.is_clean new.file) → IsTrue (g.is_clean old.file)
  pub counted : CountsFault result (g.faults old.file) (g.faults new.file)
  pub seen : step (g.seen old.file) (g.seen new.file)
  pub leaves : Follows step (g.may_leave old.file) (g.may_leave new.file)

-- this is one of these
abbrev pub IsAmong : {A : Type 0} → A → List A → Type 0
IsAmong a [] = ⊥
IsAmong a (x ∷ xs) = (x ≡ a) ⊎ IsAmong a xs

-- what is noted of a file that is not fit to be a disk's, and of one that is
abbrev pub unless_fit : Bool → List Setback
unless_fit true = []
unless_fit false = setbacks.Unfit ∷ []

-- no answer was wrong, and the file has the length of a disk
abbrev pub is_fit : {D : Type 0} → Ghosts D → D → Bool
is_fit g d = g.is_clean d && nat_eq (length (g.seen d)) disk_length

-- how its calls failed and, if it is not fit to be a disk's, that too
abbrev pub setbacks_of : {D : Type 0} → Ghosts D → Locked D → List Setback
setbacks_of g l = unless_fit (is_fit g l.file) ++ map setbacks.Used (items l.failed)

-- the fault is that of one of these setbacks
abbrev pub IsFaultOf : List Setback → FileFault → Type 0
IsFaultOf all fault = (setback : Setback) × IsAmong setback all × (fault ≡ setback_fault setback)

-- the failed calls after a file at this path with these setbacks was unlocked
abbrev pub noted_all : List ℕ → List Setback → List FailedCall → List FailedCall
noted_all path all before = map (λ setback. record { path = path; setback = setback }) all ++ before

-- a file that was just locked: no call of it was made, and the device has what a read gives
pub record IsJustLocked {D : Type 0} (g : Ghosts D) (l : Locked D) : Type 0 where
  pub begun : items l.before ≡ []
  pub unmet : items l.failed ≡ []
  pub usable : IsTrue (g.is_usable l.file)
  pub synced : Only (g.seen l.file) (g.may_leave l.file)
  pub unfailed : g.faults l.file ≡ 0

-- the step of a call that only asks or syncs: a read gives the same
abbrev pub Stays : List ℕ → List ℕ → Type 0
Stays old new = new ≡ old
