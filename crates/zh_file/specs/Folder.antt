-- What the calls at paths do.
use Rattle.std.specs.Prelude.{◌≡◌, ◌≢◌, ◌⊎◌, ◌↔◌, ◌+◌, ℕ, List, [], ◌∷◌, length, Result, Ok, Err, IfOk, Option, Some, None}
use Rattle.std.specs.declared.io.Error.{Error}
use Rattle.sqlite_std_file.specs.declared.pair.OpenError.{OpenError}
use Rattle.sqlite_std_file.specs.declared.pair.OpenError.TheVariants as opening
use Rattle.zh_file.specs.Failures.{FailedCall}
use Rattle.zh_file.specs.Files.{LeavesNoMore}
use Rattle.zh_file.specs.Places.{Places, Standing, bytes_of, companion_of, found_at, IsSameOrMade}
use Rattle.std.specs.IoError.{error_kind}
use Rattle.zh_file.specs.Causes.{IsCauseAt, cause_of}
use Rattle.zh_file.specs.Places.Standing.{nothing, file, folder, other}
use Rattle.zh_file.specs.declared.notes.Setback.{Setback}
use Rattle.zh_file.specs.declared.folder.Found.{Found}
use Rattle.zh_file.specs.declared.folder.Found.TheVariants as kinds

-- A call that neither unlocks a file nor asks for a text: the bytes of the disks are the same, and a stop can have left no more.
pub record LeavesRest {F : Type 0} (disk_at : F → List ℕ → Option (List ℕ)) (left : F → List ℕ → Type 0) (texts : F → ℕ)
    (old new : F) : Type 0 where
  pub disks : disk_at new ≡ disk_at old
  pub leaves : LeavesNoMore (left old) (left new)
  pub unasked : texts new ≡ texts old

-- the same for a call that asks for a text
pub record AsksForText {F : Type 0} (disk_at : F → List ℕ → Option (List ℕ)) (left : F → List ℕ → Type 0) (texts : F → ℕ)
    (old new : F) : Type 0 where
  pub disks : disk_at new ≡ disk_at old
  pub leaves : LeavesNoMore (left old) (left new)
  pub counted : texts new ≡ texts old + 1

-- the failed calls after a call at this path, which is noted if it failed
abbrev pub noted_at : {T E : Type 0} → List ℕ → (E → Setback) → Result T E → List FailedCall → List FailedCall
noted_at path setback_of (Ok done) before = before
noted_at path setback_of (Err error) before = record { path = path; setback = setback_of error } ∷ before

-- what is at each path in a folder, how many of its calls have failed, and how many locks were refused because they are held
-- elsewhere
pub record Folders : Type 0 where
  pub places : Places
  pub failed : ℕ
  pub refused : ℕ

-- A file was unlocked of which a stop can have left what satisfies `IsLeft`. So this is added to what a stop can have left.
pub record Unlocks {F : Type 0} (disk_at : F → List ℕ → Option (List ℕ)) (known : F → Option Folders) (left : F → List ℕ → Type 0)
    (IsLeft : List ℕ → Type 0) (old new : F) : Type 0 where
  pub disks : disk_at new ≡ disk_at old
  pub same : known new ≡ known old
  pub leaves : (c : List ℕ) → left new c ↔ (IsLeft c ⊎ left old c)

-- the number of failed calls after a call with this answer
abbrev pub failed_after : {T : Type 0} → Result T Error → ℕ → ℕ
failed_after (Ok done) before = before
failed_after (Err error) before = before + 1

-- the counts after a call, other than a lock, with this answer
pub record IsCounted {T : Type 0} (result : Result T Error) (old new : Folders) : Type 0 where
  pub failed : new.failed ≡ failed_after result old.failed
  pub refused : new.refused ≡ old.refused

-- a call that only asks: nothing changes, and if it succeeds, `says` holds of its answer
pub record LooksAt {T : Type 0} (says : Places → T → Type 0) (result : Result T Error) (old new : Folders) : Type 0 where
  pub same : new.places ≡ old.places
  pub counted : IsCounted result old new
  pub said : IfOk result (says old.places)

-- a call that can change what is at paths, as `does` says
pub record ActsAt {T : Type 0} (does : Places → Places → Type 0) (result : Result T Error) (old new : Folders) : Type 0 where
  pub done : does old.places new.places
  pub counted : IsCounted result old new

-- what a call found is what is there: a file with this many bytes, a folder, or something else
abbrev pub IsKind : Standing → Found → Type 0
IsKind (file bytes) (kinds.File n) = n ≡ length bytes
IsKind folder kinds.Folder = Unit {0}
IsKind other kinds.Other = Unit {0}
IsKind standing kind = ⊥

-- the error of a call at a path is right about what is there, if that is known
abbrev pub SaysWhy : {T : Type 0} → Option Folders → List ℕ → Result T Error → Type 0
SaysWhy None path result = Unit {0}
SaysWhy (Some now) path (Ok done) = Unit {0}
SaysWhy (Some now) path (Err error) = IsCauseAt (found_at now.places path) (cause_of (error_kind error))

-- an empty file was made at this path, where there was nothing, or nothing was made
pub record Makes (path : List ℕ) (old new : Places) : Type 0 where
  pub leads : new.leads ≡ old.leads
  pub made : IsSameOrMade (found_at old path) (found_at new path)
  pub others : (place : List ℕ) → place ≢ old.leads path → new.stands place ≡ old.stands place

-- the same for the disk at this path and for its companion
pub record MakesBoth (path : List ℕ) (old new : Places) : Type 0 where
  pub leads : new.leads ≡ old.leads
  pub disk : IsSameOrMade (found_at old path) (found_at new path)
  pub companion : IsSameOrMade (old.stands (companion_of old path)) (new.stands (companion_of old path))
  pub others : (place : List ℕ) → place ≢ old.leads path → place ≢ companion_of old path
      → new.stands place ≡ old.stands place

-- there is an empty file at this path, which is not a link
pub record IsEmptyFile (path : List ℕ) (places : Places) : Type 0 where
  pub own : places.leads path ≡ path
  pub empty : places.stands path ≡ file []

-- what was at this path was removed, or not
pub record Removes (path : List ℕ) (old new : Places) : Type 0 where
  pub leads : new.leads ≡ old.leads
  pub removed : (new.stands path ≡ old.stands path) ⊎ (new.stands path ≡ nothing)
  pub others : (place : List ℕ) → place ≢ path → new.stands place ≡ old.stands place

-- this path leads to a file with these bytes, and there is no link at the place of its companion
pub record IsLocked (path bytes : List ℕ) (places : Places) : Type 0 where
  pub disk : found_at places path ≡ file bytes
  pub companion : places.leads (companion_of places path) ≡ companion_of places path

-- the counts after a lock with this answer
abbrev pub IsCountedLock : {T : Type 0} → Result T OpenError → Folders → Folders → Type 0
IsCountedLock (Ok done) old new = (new.failed ≡ old.failed) × (new.refused ≡ old.refused)
IsCountedLock (Err opening.Busy) old new = (new.failed ≡ old.failed) × (new.refused ≡ old.refused + 1)
IsCountedLock (Err error) old new = (new.failed ≡ old.failed + 1) × (new.refused ≡ old.refused)

-- The disk at this path was opened and locked, and these are its bytes; or it was not. An empty file can have been made at its
-- place or at that of its companion, if there was nothing.
pub record Locks {T : Type 0} (path : List ℕ) (seen : T → List ℕ) (result : Result T OpenError) (old new : Folders) : Type 0 where
  pub made : MakesBoth path old.places new.places
  pub counted : IsCountedLock result old new
  pub locked : IfOk result (λ files. IsLocked path (seen files) new.places)

-- the bytes at a path, if it is known what is at each path
abbrev pub bytes_known : Option Folders → List ℕ → Option (List ℕ)
bytes_known None path = None
bytes_known (Some known) path = Some (bytes_of (found_at known.places path))
