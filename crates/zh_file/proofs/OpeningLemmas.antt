-- What opening a disk leaves, step by step.
use Rattle.std.proofs.Common.{◌≡◌, ◌∙◌, ◌≤◌, ◌+◌, ℕ, List, length, Bool, IsTrue, Option, Result, Ok, Err, IfOk, IfErr, refl, sym, ap, subst, inl, inr, ⊎_elim, arith}
use Rattle.std.specs.Prelude.{◌≢◌}
use Rattle.zh_disk.specs.Disk.{disk_length}
use Rattle.zh_file.specs.Places.{IfKnown, Places, Standing, TouchesOnly, found_at}
use Rattle.zh_file.specs.Causes.{IsCauseAt, IsLength}
use Rattle.zh_file.specs.Places.Standing.{nothing, file, folder, other}
use Rattle.zh_file.specs.Folder.{Folders}
use Rattle.zh_file.specs.Opening.{AreSame, HasFailed, IsNoFile, IsOpeningCause, IsNoDisk, OpensDisk}
use Rattle.zh_file.specs.Steps.{IsUnfit, IsUnlocked, IsUnmeasured, IsUnstarted, Measures, TakesLock}
use Rattle.zh_file.specs.declared.fault.FileFault.{FileFault}
use Rattle.zh_file.specs.declared.fault.FileFault.TheVariants as faults
use Rattle.zh_file.proofs.FolderLemmas.{lock_touches, map_known, same_found, same_touches, silent_at, touches_both, chain}

abbrev pub IsRight : {D : Type 0} → (D → Bool) → (D → List ℕ) → D → D → Type 0
IsRight is_clean seen before after = IsTrue (is_clean after) → IsTrue (is_clean before)

are_same : (old new : Places) → new ≡ old → AreSame old new
are_same old new same = record { leads = ap (λ (p : Places). p.leads) same; stands = λ place. ap (λ (p : Places). p.stands place) same }

-- a length is the length of some bytes
of_length : (standing : Standing) (n : ℕ) → IsLength standing n → (bytes : List ℕ) × (standing ≡ file bytes) × (n ≡ length bytes)
of_length nothing n is = absurd is
of_length (file bytes) n is = (bytes, refl, is)
of_length folder n is = absurd is
of_length other n is = absurd is

file_bytes : (xs ys : List ℕ) → file xs ≡ file ys → xs ≡ ys
file_bytes xs ys is = cc

nothing_length : (standing : Standing) (n : ℕ) → IsLength standing n → standing ≡ nothing → ⊥
nothing_length standing n is none = let wrong : IsLength nothing n = subst (λ (s : Standing). IsLength s n) none is in wrong

pub bytes_length : (standing : Standing) (n : ℕ) (bytes : List ℕ) → IsLength standing n → standing ≡ file bytes → n ≡ length bytes
bytes_length standing n bytes is found = let at : IsLength (file bytes) n = subst (λ (s : Standing). IsLength s n) found is in at

-- the lock of a disk is a lock of its file
module _ {L D : Type 0} (path : List ℕ) (file_of : L → D) (seen : D → List ℕ) (a b : Option Folders) where
  pub file_locked : (it : L) → IfKnown (TakesLock path (λ (l : L). seen (file_of l)) (Ok it)) a b → IfKnown (TakesLock path seen (Ok (file_of it))) a b
  file_locked it takes = map_known (TakesLock path (λ (l : L). seen (file_of l)) (Ok it)) (TakesLock path seen (Ok (file_of it))) a b
      (λ x y by. record { mid = by.mid; made = by.made; clears = by.clears; locked = by.locked; cause = tt }) takes

  pub file_unlocked : (fault : FileFault) → IfKnown (TakesLock path (λ (l : L). seen (file_of l)) (Err fault)) a b → IfKnown (TakesLock path seen (Err fault)) a b
  file_unlocked fault takes = map_known (TakesLock path (λ (l : L). seen (file_of l)) (Err fault)) (TakesLock path seen (Err fault)) a b
      (λ x y by. record { mid = by.mid; made = by.made; clears = by.clears; locked = tt; cause = by.cause }) takes

module _ (IsRefused : ℕ → Type 0) (Failed : Type 0) (path : List ℕ) where
  pub unmeasured_cause : (old mid new : Folders) → mid.places ≡ old.places → old.failed ≤ mid.failed → mid.refused ≡ old.refused → new.refused ≡ mid.refused
      → (fault : FileFault) → IsUnmeasured path mid new fault → IsOpeningCause IsRefused Failed path old new fault
  unmeasured_cause old mid new same failed was refused faults.Memory by = tt
  unmeasured_cause old mid new same failed was refused (faults.Device cause) by = (
    refused ∙ was,
    subst (λ (p : Places). IsCauseAt (found_at p path) cause) same by.0,
    ⊎_elim (λ more. inl (omega (arith, failed, more))) (λ here. inr (inl (subst (λ (p : Places). IsNoFile (found_at p path)) same here))) by.1,
  )
  unmeasured_cause old mid new same failed was refused (faults.Size n) by = absurd by
  unmeasured_cause old mid new same failed was refused faults.Busy by = absurd by

  pub unlocked_cause : (old mid new : Folders) → old.failed ≤ mid.failed → mid.refused ≡ old.refused → (fault : FileFault) → IsUnlocked mid new fault
      → IsOpeningCause IsRefused Failed path old new fault
  unlocked_cause old mid new failed was faults.Memory by = tt
  unlocked_cause old mid new failed was (faults.Device cause) by =
      (by.0 ∙ was, silent_at (found_at old.places path) cause by.1, inl (omega (arith, failed, by.2)))
  unlocked_cause old mid new failed was (faults.Size n) by = absurd by
  unlocked_cause old mid new failed was faults.Busy by = by ∙ ap (λ (n : ℕ). n + 1) was

module _ {T D : Type 0} (Failed : Type 0) (path : List ℕ) (bytes : T → List ℕ) (seen : D → List ℕ) where
  pub unmeasured_opens : (fault : FileFault) (x y : Folders) → Measures path (Err fault) x y → OpensDisk {T = T} Failed path bytes (Err fault) x y
  unmeasured_opens fault x y measures = record {
    touches = same_touches path x.places y.places measures.same;
    kept = same_found path x.places y.places measures.same;
    opened = tt;
    refused = tt;
    cause = unmeasured_cause IsNoDisk Failed path x x y refl (omega arith) refl measures.goes.refused fault measures.cause;
  }

  pub size_opens : (n : ℕ) (x y : Folders) → n ≢ disk_length → Measures path (Ok n) x y → OpensDisk {T = T} Failed path bytes (Err (faults.Size n)) x y
  size_opens n x y differs measures = record {
    touches = same_touches path x.places y.places measures.same;
    kept = same_found path x.places y.places measures.same;
    opened = tt;
    refused = tt;
    cause = (measures.length, differs, are_same x.places y.places measures.same);
  }

  -- the file that was measured is still there once it is locked
  kept_locked : (n : ℕ) (x y z : Folders) (result : Result D FileFault) → Measures path (Ok n) x y → TakesLock path seen result y z
      → TouchesOnly path x.places z.places × (found_at z.places path ≡ found_at x.places path)
  kept_locked n x y z result measures takes =
      let both = lock_touches path y.places takes.mid z.places takes.made takes.clears in
      let same : found_at y.places path ≡ found_at x.places path = same_found path x.places y.places measures.same in
      let there : IsLength (found_at y.places path) n = subst (λ (s : Standing). IsLength s n) (sym same) measures.length in
      let mid : found_at takes.mid path ≡ found_at y.places path =
      ⊎_elim (λ kept. kept) (λ made. absurd (nothing_length (found_at y.places path) n there made.0)) takes.made.disk in
      (touches_both path x.places y.places z.places (same_touches path x.places y.places measures.same) both.0, both.1 ∙ mid ∙ same)

  pub unlocked_opens : (n : ℕ) (fault : FileFault) (x y z : Folders) → Measures path (Ok n) x y → TakesLock path seen (Err fault) y z
      → OpensDisk {T = T} Failed path bytes (Err fault) x z
  unlocked_opens n fault x y z measures takes =
      let kept = kept_locked n x y z (Err fault) measures takes in
      record {
        touches = kept.0;
        kept = kept.1;
        opened = tt;
        refused = tt;
        cause = unlocked_cause IsNoDisk Failed path x y z measures.goes.failed measures.goes.refused fault takes.cause;
      }

module _ {T D : Type 0} (is_clean : D → Bool) (failures : D → ℕ) (seen : D → List ℕ) (path : List ℕ) (bytes : T → List ℕ) where
  unfit_failed : (f : D) → (IsTrue (is_clean f) → length (seen f) ≡ disk_length) → IsUnfit is_clean failures seen f → HasFailed is_clean failures
  unfit_failed f long unfit = (unfit.after, λ clean. let why = unfit.cause clean in ⊎_elim (λ failed. failed) (λ short. absurd (short (long why.0))) why.1)

  pub start_cause : (IsRefused : ℕ → Type 0) (f : D) (old new : Folders) → new.refused ≡ old.refused → (IsTrue (is_clean f) → length (seen f) ≡ disk_length) → (fault : FileFault)
      → IsUnstarted (IsUnfit is_clean failures seen f) fault → IsOpeningCause IsRefused (HasFailed is_clean failures) path old new fault
  start_cause IsRefused f old new refused long faults.Memory by = tt
  start_cause IsRefused f old new refused long (faults.Device cause) by =
      (refused, silent_at (found_at old.places path) cause by.0, inr (inr (unfit_failed f long by.1)))
  start_cause IsRefused f old new refused long (faults.Size n) by = absurd by
  start_cause IsRefused f old new refused long faults.Busy by = absurd by

  pub start_opens : (n : ℕ) (f : D) (result : Result T FileFault) (x y z : Folders) → n ≡ disk_length → Measures path (Ok n) x y → TakesLock path seen (Ok f) y z
      → IfOk result (λ d. bytes d ≡ seen f) → IfErr result (IsUnstarted (IsUnfit is_clean failures seen f))
      → OpensDisk (HasFailed is_clean failures) path bytes result x z
  start_opens n f result x y z long measures takes began cause =
      let kept = kept_locked {T = T} (HasFailed is_clean failures) path bytes seen n x y z (Ok f) measures takes in
      let both = lock_touches path y.places takes.mid z.places takes.made takes.clears in
      let at : found_at x.places path ≡ file (seen f) = sym kept.1 ∙ both.1 ∙ takes.locked.0 in
      let size : length (seen f) ≡ disk_length = sym (bytes_length (found_at x.places path) n (seen f) measures.length at) ∙ long in
      let refused : z.refused ≡ x.refused = takes.locked.1.refused ∙ measures.goes.refused in
      record {
        touches = kept.0;
        kept = kept.1;
        opened = at_bytes result began at;
        refused = all_ok result refused;
        cause = causes result refused size cause;
      }
    where
      at_bytes : (r : Result T FileFault) → IfOk r (λ d. bytes d ≡ seen f) → found_at x.places path ≡ file (seen f) → IfOk r (λ d. found_at x.places path ≡ file (bytes d))
      at_bytes (Ok d) is at = at ∙ ap file (sym is)
      at_bytes (Err fault) is at = tt

      all_ok : (r : Result T FileFault) → z.refused ≡ x.refused → IfOk r (λ d. z.refused ≡ x.refused)
      all_ok (Ok d) is = is
      all_ok (Err fault) is = tt

      causes : (r : Result T FileFault) → z.refused ≡ x.refused → length (seen f) ≡ disk_length
          → IfErr r (IsUnstarted (IsUnfit is_clean failures seen f)) → IfErr r (IsOpeningCause IsNoDisk (HasFailed is_clean failures) path x z)
      causes (Ok d) refused size by = tt
      causes (Err fault) refused size by = start_cause IsNoDisk f x z refused (λ clean. size) fault by

-- the same for what is known of a folder, if anything is
module _ {T : Type 0} (Failed : Type 0) (path : List ℕ) (bytes : T → List ℕ) (a b : Option Folders) where
  pub known_unmeasured : (fault : FileFault) → IfKnown (Measures path (Err fault)) a b → IfKnown (OpensDisk Failed path bytes (Err fault)) a b
  known_unmeasured fault measures = map_known (Measures path (Err fault)) (OpensDisk Failed path bytes (Err fault)) a b
      (λ x y by. unmeasured_opens Failed path bytes bytes fault x y by) measures

  pub known_size : (n : ℕ) → n ≢ disk_length → IfKnown (Measures path (Ok n)) a b → IfKnown (OpensDisk Failed path bytes (Err (faults.Size n))) a b
  known_size n differs measures = map_known (Measures path (Ok n)) (OpensDisk Failed path bytes (Err (faults.Size n))) a b
      (λ x y by. size_opens Failed path bytes bytes n x y differs by) measures

module _ {T D : Type 0} (is_clean : D → Bool) (failures : D → ℕ) (seen : D → List ℕ) (path : List ℕ) (bytes : T → List ℕ) (n : ℕ) (a b c : Option Folders)
    (measures : IfKnown (Measures path (Ok n)) a b) where
  pub known_unlocked : (fault : FileFault) → IfKnown (TakesLock path seen (Err fault)) b c → IfKnown (OpensDisk {T = T} (HasFailed is_clean failures) path bytes (Err fault)) a c
  known_unlocked fault takes = chain (Measures path (Ok n)) (TakesLock path seen (Err fault)) (OpensDisk {T = T} (HasFailed is_clean failures) path bytes (Err fault)) a b c
      (λ x y z one two. unlocked_opens (HasFailed is_clean failures) path bytes seen n fault x y z one two) measures takes

  pub known_started : (f : D) (result : Result T FileFault) → n ≡ disk_length → IfKnown (TakesLock path seen (Ok f)) b c
      → IfOk result (λ d. bytes d ≡ seen f) → IfErr result (IsUnstarted (IsUnfit is_clean failures seen f))
      → IfKnown (OpensDisk (HasFailed is_clean failures) path bytes result) a c
  known_started f result long takes began cause = chain (Measures path (Ok n)) (TakesLock path seen (Ok f)) (OpensDisk (HasFailed is_clean failures) path bytes result) a b c
      (λ x y z one two. start_opens is_clean failures seen path bytes n f result x y z long one two began cause) measures takes
