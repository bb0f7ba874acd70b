-- What opening a disk leaves, step by step, if the disk is made where there is none.
use Rattle.std.proofs.Common.{◌≡◌, ◌∙◌, ◌<◌, ℕ, List, [], ◌∷◌, length, Bool, IsTrue, Option, Some, None, Result, Ok, Err, IfOk, IfErr, refl, sym, ap, subst, inl, inr, ⊎_elim, arith}
use Rattle.std.specs.Prelude.{◌≢◌, ◌⊎◌, bytes_eq}
use Rattle.std.proofs.lemmas.Bool.{cases_Bool}
use Rattle.std.proofs.lemmas.Bool.Decides.{not_from_Decides}
use Rattle.std.proofs.lemmas.Slice.Eq.{bytes_eq-Decides}
use Rattle.std.specs.IoError.{error_kind}
use Rattle.std.specs.declared.io.Error.{Error}
use Rattle.zh_disk.specs.Disk.{Trail, disk_length, fresh_trail}
use Rattle.zh_disk.specs.History.{History}
use Rattle.zh_disk.specs.Memory.{IsNewDisk}
use Rattle.zh_file.specs.Causes.{IsCauseAt, IsLength, cause_of, fault_of_kind, fault_of_found}
use Rattle.zh_file.specs.Files.{BeginsWith}
use Rattle.zh_file.specs.Places.{IfKnown, IsSameOrMade, Places, Standing, TouchesOnly, bytes_of, found_at}
use Rattle.zh_file.specs.Places.Standing.{file, nothing, folder, other}
use Rattle.zh_file.specs.Folder.{ActsAt, Folders, Makes, SaysWhy}
use Rattle.zh_file.specs.Stored.{IsZeroed}
use Rattle.zh_file.specs.Opening.{AreSame, HasFailed, IsNoFile, IsOpeningCause, IsNoStart, OpensOrMakesDisk}
use Rattle.zh_file.specs.Steps.{IsUnfit, IsUnmeasured, IsUnstarted, Measures, TakesLock}
use Rattle.zh_file.specs.declared.fault.FileFault.{FileFault}
use Rattle.zh_file.specs.declared.fault.FileFault.TheVariants as faults
use Rattle.zh_file.proofs.FolderLemmas.{cause_before, lock_touches, made_touches, no_file_before, of_found, of_kind, same_found, same_touches, silent_at, touches_both, chain, chain_three}
use Rattle.zh_file.proofs.OpeningLemmas.{bytes_length, start_cause, unlocked_cause}

no_bytes : (standing : Standing) (xs : List ℕ) → standing ≡ file xs → standing ≡ file [] → xs ≡ []
no_bytes standing xs is none = let at : file [] ≡ file xs = sym none ∙ is in cc

none_if_zero : (xs : List ℕ) → 0 ≡ length xs → xs ≡ []
none_if_zero [] is = refl
none_if_zero (a ∷ more) is = absurd (omega (arith, is))

-- a file that is not empty was not made just now
not_made : (old new : Standing) (n : ℕ) → n ≢ 0 → IsSameOrMade old new → IsLength new n → new ≡ old
not_made old new n some made is = ⊎_elim
    (λ same. same)
    (λ it. absurd (some (bytes_length new n [] is it.1)))
    made

unmade_places : (path : List ℕ) (x y : Places) → Makes path x y → found_at y path ≡ found_at x path → AreSame x y
unmade_places path x y makes same = record {
  leads = makes.leads;
  stands = λ place. ⊎_elim
      (λ here.
      let is = (bytes_eq-Decides place (x.leads path)).0 here in
      let at : y.stands (x.leads path) ≡ x.stands (x.leads path) = subst (λ (l : List ℕ → List ℕ). y.stands (l path) ≡ x.stands (x.leads path)) makes.leads same in
      subst (λ (p : List ℕ). y.stands p ≡ x.stands p) (sym is) at)
      (λ far. makes.others place (not_from_Decides (bytes_eq place (x.leads path)) (bytes_eq-Decides place (x.leads path)) far))
      (cases_Bool (bytes_eq place (x.leads path)));
}

-- the bytes of a file are the same as before it was made, if it was made
bytes_from : (old new : Standing) (bytes : List ℕ) → IsSameOrMade old new → new ≡ file bytes → bytes ≡ bytes_of old
bytes_from old new bytes made is = ⊎_elim
    (λ same. sym (ap bytes_of (sym same ∙ is)))
    (λ it. no_bytes new bytes is it.1 ∙ sym (ap bytes_of it.0))
    made

was_file : (old new : Standing) (bytes : List ℕ) → IsSameOrMade old new → new ≡ file bytes → ¬ IsNoFile old
was_file old new bytes made is wrong = ⊎_elim
    (λ same. ⊎_elim
    (λ it. let at : file bytes ≡ folder = sym is ∙ same ∙ it in absurd cc)
    (λ it. let at : file bytes ≡ other = sym is ∙ same ∙ it in absurd cc)
    wrong)
    (λ it. ⊎_elim
    (λ no. let at : nothing ≡ folder = sym it.0 ∙ no in absurd cc)
    (λ no. let at : nothing ≡ other = sym it.0 ∙ no in absurd cc)
    wrong)
    made

-- a disk over a file that had these bytes, and was filled if it was empty
pub begins_with : (bytes before now : List ℕ) (begun : Trail) → before ≡ bytes → (before ≡ [] → IsZeroed now)
    → (before ≡ []) ⊎ (now ≡ before) → begun ≡ fresh_trail now → BeginsWith bytes begun
begins_with [] before now begun none filled same is =
    let zeroed = filled none in
    subst (λ (t : Trail). IsNewDisk t) (sym is) (record { size = zeroed.size; zero = zeroed.zero; begun = refl })
begins_with (byte ∷ bytes) before now begun was filled same is = ⊎_elim
    (λ none. let wrong : ◌≡◌ {A = List ℕ} [] (byte ∷ bytes) = sym none ∙ was in absurd cc)
    (λ kept. is ∙ ap fresh_trail (kept ∙ was))
    same

-- what is at the path of a disk once it is locked, by what was there before it was made
module _ (path : List ℕ) where
  twice : (w x y mid : Places) → Makes path w x → y ≡ x → IsSameOrMade (found_at y path) (found_at mid path) → IsSameOrMade (found_at w path) (found_at mid path)
  twice w x y mid makes same made =
      let at : found_at y path ≡ found_at x path = same_found path x y same in
      ⊎_elim
      (λ kept. subst (λ (s : Standing). IsSameOrMade (found_at w path) s) (sym (kept ∙ at)) makes.made)
      (λ it. ⊎_elim
      (λ was. inr (sym was ∙ sym at ∙ it.0, it.1))
      (λ before. inr (before.0, it.1))
      makes.made)
      made

module _ {T : Type 0} (Failed : Type 0) (path : List ℕ) (history : T → History) where
  pub unmade : {X : Type 0} (error : Error) (w x : Folders) → ActsAt {T = X} (Makes path) (Err error) w x
      → IsCauseAt (found_at w.places path) (cause_of (error_kind error)) → OpensOrMakesDisk {T = T} Failed path history (Err (fault_of_kind (error_kind error))) w x
  unmade error w x changes why = record {
    touches = made_touches path w.places x.places changes.done;
    opened = tt;
    refused = tt;
    cause = of_kind (IsOpeningCause IsNoStart Failed path w x) tt (error_kind error) (changes.counted.refused, why, inl (omega (arith, changes.counted.failed)));
  }

  touched : (w x y : Folders) → Makes path w.places x.places → y.places ≡ x.places → TouchesOnly path w.places y.places
  touched w x y makes same = touches_both path w.places x.places y.places (made_touches path w.places x.places makes) (same_touches path x.places y.places same)

  pub unmeasured_makes : {X : Type 0} (done : X) (fault : FileFault) (w x y : Folders) → ActsAt {T = X} (Makes path) (Ok done) w x → Measures path (Err fault) x y
      → OpensOrMakesDisk {T = T} Failed path history (Err fault) w y
  unmeasured_makes done fault w x y changes measures = record {
    touches = touched w x y changes.done measures.same;
    opened = tt;
    refused = tt;
    cause = other_before fault measures.cause;
  }
    where
      refused : y.refused ≡ w.refused
      refused = measures.goes.refused ∙ changes.counted.refused

      other_before : (f : FileFault) → IsUnmeasured path x y f → IsOpeningCause IsNoStart Failed path w y f
      other_before faults.Memory by = tt
      other_before (faults.Device cause) by = (
        refused,
        cause_before (found_at w.places path) (found_at x.places path) cause changes.done.made by.0,
        ⊎_elim (λ more. inl (omega (arith, changes.counted.failed, more)))
            (λ here. inr (inl (no_file_before (found_at w.places path) (found_at x.places path) changes.done.made here))) by.1,
      )
      other_before (faults.Size n) by = absurd by
      other_before faults.Busy by = absurd by

  pub size_makes : {X : Type 0} (done : X) (n : ℕ) (w x y : Folders) → n ≢ 0 → n ≢ disk_length → ActsAt {T = X} (Makes path) (Ok done) w x → Measures path (Ok n) x y
      → OpensOrMakesDisk {T = T} Failed path history (Err (faults.Size n)) w y
  size_makes done n w x y some differs changes measures =
      let kept = not_made (found_at w.places path) (found_at x.places path) n some changes.done.made measures.length in
      let unmade = unmade_places path w.places x.places changes.done kept in
      record {
        touches = touched w x y changes.done measures.same;
        opened = tt;
        refused = tt;
        cause = (
          subst (λ (s : Standing). IsLength s n) kept measures.length,
          (differs, some),
          record {
            leads = ap (λ (p : Places). p.leads) measures.same ∙ unmade.leads;
            stands = λ place. ap (λ (p : Places). p.stands place) measures.same ∙ unmade.stands place;
          },
        );
      }

  pub unlocked_makes : {X D : Type 0} (done : X) (seen : D → List ℕ) (n : ℕ) (fault : FileFault) (w x y z : Folders) → ActsAt {T = X} (Makes path) (Ok done) w x → Measures path (Ok n) x y
      → TakesLock path seen (Err fault) y z → OpensOrMakesDisk {T = T} Failed path history (Err fault) w z
  unlocked_makes done seen n fault w x y z changes measures takes =
      let both = lock_touches path y.places takes.mid z.places takes.made takes.clears in
      record {
        touches = touches_both path w.places y.places z.places (touched w x y changes.done measures.same) both.0;
        opened = tt;
        refused = tt;
        cause = unlocked_cause IsNoStart Failed path w y z (omega (arith, changes.counted.failed, measures.goes.failed)) (measures.goes.refused ∙ changes.counted.refused) fault takes.cause;
      }

module _ {T D X : Type 0} (is_clean : D → Bool) (failures : D → ℕ) (seen : D → List ℕ) (path : List ℕ) (history : T → History)
    (done : X) (n : ℕ) (f : D) (w x y z : Folders) (changes : ActsAt {T = X} (Makes path) (Ok done) w x) (measures : Measures path (Ok n) x y) (takes : TakesLock path seen (Ok f) y z) where
  all_touched : TouchesOnly path w.places z.places
  all_touched =
      let both = lock_touches path y.places takes.mid z.places takes.made takes.clears in
      touches_both path w.places y.places z.places
      (touches_both path w.places x.places y.places (made_touches path w.places x.places changes.done) (same_touches path x.places y.places measures.same)) both.0

  none_refused : z.refused ≡ w.refused
  none_refused = takes.locked.1.refused ∙ measures.goes.refused ∙ changes.counted.refused

  -- a call of the locked file failed while it was filled
  pub unfilled : (error : Error) (g : D) → (0 < failures g) → OpensOrMakesDisk {T = T} (HasFailed is_clean failures) path history (Err (fault_of_found (error_kind error))) w z
  unfilled error g failed = record {
    touches = all_touched;
    opened = tt;
    refused = tt;
    cause = of_found (IsOpeningCause IsNoStart (HasFailed is_clean failures) path w z) tt
        (λ cause silent. (none_refused, silent_at (found_at w.places path) cause silent, inr (inr (g, λ clean. failed)))) (error_kind error);
  }

  pub start_makes : (g : D) (result : Result T FileFault) → (n ≡ 0) ⊎ (n ≡ disk_length)
      → (IsTrue (is_clean g) → (seen f ≡ []) ⊎ (seen g ≡ seen f)) → (IsTrue (is_clean g) → seen f ≡ [] → IsZeroed (seen g))
      → IfOk result (λ d. (history d).trail ≡ fresh_trail (seen g)) → IfOk result (λ d. IsTrue (history d).honest → IsTrue (is_clean g))
      → IfErr result (IsUnstarted (IsUnfit is_clean failures seen g))
      → OpensOrMakesDisk (HasFailed is_clean failures) path history result w z
  start_makes g result lengths same filled began clean cause = record {
    touches = all_touched;
    opened = opens result began clean;
    refused = all_ok result;
    cause = causes result cause;
  }
    where
      to_mid : IsSameOrMade (found_at w.places path) (found_at takes.mid path)
      to_mid = twice path w.places x.places y.places takes.mid changes.done measures.same takes.made.disk

      opens : (r : Result T FileFault) → IfOk r (λ d. (history d).trail ≡ fresh_trail (seen g)) → IfOk r (λ d. IsTrue (history d).honest → IsTrue (is_clean g))
          → IfOk r (λ d. IsTrue (history d).honest
          → (¬ IsNoFile (found_at w.places path)) × BeginsWith (bytes_of (found_at w.places path)) (history d).trail)
      opens (Err fault) is by = tt
      opens (Ok d) is by = λ h. (
        was_file (found_at w.places path) (found_at takes.mid path) (seen f) to_mid takes.locked.0,
        begins_with (bytes_of (found_at w.places path)) (seen f) (seen g) (history d).trail
            (bytes_from (found_at w.places path) (found_at takes.mid path) (seen f) to_mid takes.locked.0) (filled (by h)) (same (by h)) is,
      )

      all_ok : (r : Result T FileFault) → IfOk r (λ d. z.refused ≡ w.refused)
      all_ok (Ok d) = none_refused
      all_ok (Err fault) = tt

      -- the length that was measured is that of the file that was locked, if it was there before
      there : IsLength (found_at y.places path) n
      there = subst (λ (s : Standing). IsLength s n) (sym (same_found path x.places y.places measures.same)) measures.length

      measured : (seen f ≡ []) ⊎ (n ≡ length (seen f))
      measured = ⊎_elim
          (λ kept. inr (bytes_length (found_at y.places path) n (seen f) there (sym kept ∙ takes.locked.0)))
          (λ it. inl (no_bytes (found_at takes.mid path) (seen f) takes.locked.0 it.1))
          takes.made.disk

      long : IsTrue (is_clean g) → length (seen g) ≡ disk_length
      long right = ⊎_elim
          (λ none. (filled right none).size)
          (λ size. ⊎_elim
          (λ zero. (filled right (none_if_zero (seen f) (sym zero ∙ size))).size)
          (λ all. ⊎_elim (λ none. (filled right none).size) (λ kept. ap length kept ∙ sym size ∙ all) (same right))
          lengths)
          measured

      causes : (r : Result T FileFault) → IfErr r (IsUnstarted (IsUnfit is_clean failures seen g))
          → IfErr r (IsOpeningCause IsNoStart (HasFailed is_clean failures) path w z)
      causes (Ok d) by = tt
      causes (Err fault) by = start_cause {T = T} is_clean failures seen path (λ d. (history d).trail.now.bytes) IsNoStart g w z none_refused long fault by

-- the same for what is known of a folder, if anything is
pub known_unmade : {T : Type 0} (X Failed : Type 0) (path : List ℕ) (history : T → History) (a b : Option Folders) (error : Error)
    → IfKnown (ActsAt {T = X} (Makes path) (Err error)) a b → SaysWhy {T = X} a path (Err error)
    → IfKnown (OpensOrMakesDisk Failed path history (Err (fault_of_kind (error_kind error)))) a b
known_unmade X Failed path history None b error call why = call
known_unmade X Failed path history (Some w) None error call why = absurd call
known_unmade X Failed path history (Some w) (Some x) error call why = unmade Failed path history error w x call why

module _ {T X : Type 0} (Failed : Type 0) (path : List ℕ) (history : T → History) (a b c : Option Folders) where
  module _ (done : X) (call : IfKnown (ActsAt {T = X} (Makes path) (Ok done)) a b) where
    pub known_unmeasured : (fault : FileFault) → IfKnown (Measures path (Err fault)) b c → IfKnown (OpensOrMakesDisk {T = T} Failed path history (Err fault)) a c
    known_unmeasured fault measures = chain (ActsAt {T = X} (Makes path) (Ok done)) (Measures path (Err fault)) (OpensOrMakesDisk {T = T} Failed path history (Err fault)) a b c
        (λ w x y one two. unmeasured_makes Failed path history done fault w x y one two) call measures

    pub known_size : (n : ℕ) → n ≢ 0 → n ≢ disk_length → IfKnown (Measures path (Ok n)) b c → IfKnown (OpensOrMakesDisk {T = T} Failed path history (Err (faults.Size n))) a c
    known_size n some differs measures = chain (ActsAt {T = X} (Makes path) (Ok done)) (Measures path (Ok n)) (OpensOrMakesDisk {T = T} Failed path history (Err (faults.Size n))) a b c
        (λ w x y one two. size_makes Failed path history done n w x y some differs one two) call measures

    pub known_unlocked : {D : Type 0} (seen : D → List ℕ) (n : ℕ) (fault : FileFault) (d : Option Folders) → IfKnown (Measures path (Ok n)) b c
        → IfKnown (TakesLock path seen (Err fault)) c d → IfKnown (OpensOrMakesDisk {T = T} Failed path history (Err fault)) a d
    known_unlocked seen n fault d measures takes =
        chain_three (ActsAt {T = X} (Makes path) (Ok done)) (Measures path (Ok n)) (TakesLock path seen (Err fault)) (OpensOrMakesDisk {T = T} Failed path history (Err fault)) a b c d
        (λ w x y z one two three. unlocked_makes Failed path history done seen n fault w x y z one two three) call measures takes

module _ {T D X : Type 0} (is_clean : D → Bool) (failures : D → ℕ) (seen : D → List ℕ) (path : List ℕ) (history : T → History)
    (done : X) (n : ℕ) (f : D) (a b c d : Option Folders) (call : IfKnown (ActsAt {T = X} (Makes path) (Ok done)) a b)
    (measures : IfKnown (Measures path (Ok n)) b c) (takes : IfKnown (TakesLock path seen (Ok f)) c d) where
  pub known_unfilled : (error : Error) (g : D) → 0 < failures g → IfKnown (OpensOrMakesDisk {T = T} (HasFailed is_clean failures) path history (Err (fault_of_found (error_kind error)))) a d
  known_unfilled error g failed = chain_three (ActsAt {T = X} (Makes path) (Ok done)) (Measures path (Ok n)) (TakesLock path seen (Ok f))
      (OpensOrMakesDisk {T = T} (HasFailed is_clean failures) path history (Err (fault_of_found (error_kind error)))) a b c d
      (λ w x y z one two three. unfilled is_clean failures seen path history done n f w x y z one two three error g failed) call measures takes

  pub known_started : (g : D) (result : Result T FileFault) → (n ≡ 0) ⊎ (n ≡ disk_length)
      → (IsTrue (is_clean g) → (seen f ≡ []) ⊎ (seen g ≡ seen f)) → (IsTrue (is_clean g) → seen f ≡ [] → IsZeroed (seen g))
      → IfOk result (λ d. (history d).trail ≡ fresh_trail (seen g)) → IfOk result (λ d. IsTrue (history d).honest → IsTrue (is_clean g))
      → IfErr result (IsUnstarted (IsUnfit is_clean failures seen g))
      → IfKnown (OpensOrMakesDisk {T = T} (HasFailed is_clean failures) path history result) a d
  known_started g result lengths same filled began clean cause = chain_three (ActsAt {T = X} (Makes path) (Ok done)) (Measures path (Ok n)) (TakesLock path seen (Ok f))
      (OpensOrMakesDisk {T = T} (HasFailed is_clean failures) path history result) a b c d
      (λ w x y z one two three. start_makes is_clean failures seen path history done n f w x y z one two three g result lengths same filled began clean cause) call measures takes
