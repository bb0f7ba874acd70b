-- What is known of a folder over several calls.
use Rattle.std.proofs.Common.{◌≡◌, ◌∙◌, ◌+◌, ℕ, List, [], length, Option, Some, None, Result, Ok, Err, IfOk, sym, ap, subst, inl, inr, ⊎_elim, arith}
use Rattle.std.specs.Prelude.{codes, ◌++◌}
use Rattle.std.proofs.lemmas.List.{length-append}
use Rattle.std.specs.declared.io.ErrorKind.{ErrorKind}
use Rattle.std.specs.declared.io.ErrorKind.TheVariants as kinds
use Rattle.zh_disk.specs.Disk.{Trail, fresh_trail}
use Rattle.zh_file.specs.Places.{Places, Standing, IfKnown, IsBare, IsSameOrBare, IsSameOrMade, TouchesOnly, companion_of, found_at}
use Rattle.zh_file.specs.Causes.{IsCauseAt, cause_of, fault_of_kind, fault_of_found}
use Rattle.zh_file.specs.Places.Standing.{nothing, file, folder, other}
use Rattle.zh_file.specs.Opening.{IsNoFile}
use Rattle.zh_file.specs.Folder.{Makes, MakesBoth}
use Rattle.zh_file.specs.Steps.{ClearsCompanion, IsSilent}
use Rattle.zh_file.specs.declared.fault.FileCause.{FileCause}
use Rattle.zh_file.specs.declared.fault.FileCause.TheVariants as causes
use Rattle.zh_file.specs.declared.fault.FileFault.{FileFault}
use Rattle.zh_file.specs.declared.fault.FileFault.TheVariants as faults

module _ {A : Type 0} where
  pub map_known : (P R : A → A → Type 0) (old new : Option A) → ((x y : A) → P x y → R x y) → IfKnown P old new → IfKnown R old new
  map_known P R None new f by = by
  map_known P R (Some x) None f by = by
  map_known P R (Some x) (Some y) f by = f x y by

  -- one call followed by another
  pub chain : (P Q R : A → A → Type 0) (old mid new : Option A) → ((x y z : A) → P x y → Q y z → R x z) → IfKnown P old mid → IfKnown Q mid new → IfKnown R old new
  chain P Q R None mid new f one next = subst (λ (k : Option A). IfKnown Q k new) one next
  chain P Q R (Some x) None new f one next = absurd one
  chain P Q R (Some x) (Some y) None f one next = next
  chain P Q R (Some x) (Some y) (Some z) f one next = f x y z one next

  pub chain_three : (P Q S R : A → A → Type 0) (a b c d : Option A) → ((w x y z : A) → P w x → Q x y → S y z → R w z)
      → IfKnown P a b → IfKnown Q b c → IfKnown S c d → IfKnown R a d
  chain_three P Q S R None b c d f one two three = subst (λ (k : Option A). IfKnown S k d) (subst (λ (k : Option A). IfKnown Q k c) one two) three
  chain_three P Q S R (Some w) None c d f one two three = absurd one
  chain_three P Q S R (Some w) (Some x) None d f one two three = absurd two
  chain_three P Q S R (Some w) (Some x) (Some y) None f one two three = three
  chain_three P Q S R (Some w) (Some x) (Some y) (Some z) f one two three = f w x y z one two three

-- the fault for an error at a path is memory, or the device with its cause
pub of_kind : (P : FileFault → Type 0) → P faults.Memory → (kind : ErrorKind) → P (faults.Device (cause_of kind)) → P (fault_of_kind kind)
of_kind P memory kinds.OutOfMemory device = memory
of_kind P memory kind device = device

-- the fault for an error of a file that was found says nothing about the path
pub of_found : (P : FileFault → Type 0) → P faults.Memory → ((cause : FileCause) → IsSilent cause → P (faults.Device cause)) → (kind : ErrorKind) → P (fault_of_found kind)
of_found P memory device kinds.OutOfMemory = memory
of_found P memory device kinds.NotFound = device causes.Failed tt
of_found P memory device kinds.IsADirectory = device causes.Failed tt
of_found P memory device kind = device (cause_of kind) tt

pub silent_at : (standing : Standing) (cause : FileCause) → IsSilent cause → IsCauseAt standing cause
silent_at standing causes.Missing is = absurd is
silent_at standing causes.Folder is = absurd is
silent_at standing causes.Special is = absurd is
silent_at standing cause is = tt

-- what is there, and was not made, was there before
still : (old new wanted : Standing) → (file [] ≡ wanted → ⊥) → IsSameOrMade old new → new ≡ wanted → old ≡ wanted
still old new wanted differs made is = ⊎_elim (λ same. sym same ∙ is) (λ it. absurd (differs (sym it.1 ∙ is))) made

pub cause_before : (old new : Standing) (cause : FileCause) → IsSameOrMade old new → IsCauseAt new cause → IsCauseAt old cause
cause_before old new causes.Missing made is = still old new nothing (λ (wrong : file [] ≡ nothing). cc) made is
cause_before old new causes.Folder made is = still old new folder (λ (wrong : file [] ≡ folder). cc) made is
cause_before old new causes.Special made is = still old new other (λ (wrong : file [] ≡ other). cc) made is
cause_before old new cause made is = tt

pub no_file_before : (old new : Standing) → IsSameOrMade old new → IsNoFile new → IsNoFile old
no_file_before old new made is = ⊎_elim
    (λ (it : new ≡ folder). inl (still old new folder (λ (wrong : file [] ≡ folder). cc) made it))
    (λ (it : new ≡ other). inr (still old new other (λ (wrong : file [] ≡ other). cc) made it))
    is

pub same_companion : (old new : Places) (path : List ℕ) → new.leads ≡ old.leads → companion_of new path ≡ companion_of old path
same_companion old new path same = ap (λ (f : List ℕ → List ℕ). f path ++ codes "-wal") same

-- the place of a companion is not the place of its disk
pub longer : (xs : List ℕ) → (xs ≡ xs ++ codes "-wal" → ⊥)
longer xs is = let size : length xs ≡ length xs + 4 = ap length is ∙ length-append xs (codes "-wal") in absurd (omega (arith, size))

bare_made : (old new : Standing) → IsSameOrMade old new → IsSameOrBare old new
bare_made old new made = ⊎_elim (λ same. inl same) (λ it. inr (inl it.0, inr it.1)) made

bare_both : (x y z : Standing) → IsSameOrBare x y → IsSameOrBare y z → IsSameOrBare x z
bare_both x y z one next = ⊎_elim
    (λ same. ⊎_elim (λ was. inl (same ∙ was)) (λ bare. inr (bare.0, subst IsBare (sym same) bare.1)) one)
    (λ bare. ⊎_elim (λ was. inr (subst IsBare was bare.0, bare.1)) (λ before. inr (before.0, bare.1)) one)
    next

-- the lock, followed by the look at the companion
pub lock_touches : (path : List ℕ) (x y z : Places) → MakesBoth path x y → ClearsCompanion path y z → TouchesOnly path x z × (found_at z path ≡ found_at y path)
lock_touches path x y z makes clears =
    let at : companion_of y path ≡ companion_of x path = same_companion x y path makes.leads in
    let leads : z.leads ≡ x.leads = clears.leads ∙ makes.leads in
    let kept : z.stands (y.leads path) ≡ y.stands (y.leads path) = clears.others (y.leads path) (longer (y.leads path)) in
    let here : z.stands (z.leads path) ≡ y.stands (y.leads path) = subst (λ (l : List ℕ → List ℕ). z.stands (l path) ≡ y.stands (y.leads path)) (sym clears.leads) kept in
    let cleared : IsSameOrBare (y.stands (companion_of x path)) (z.stands (companion_of x path)) =
    subst (λ (c : List ℕ). IsSameOrBare (y.stands c) (z.stands c)) at (⊎_elim (λ same. inl same) (λ gone. inr (inr gone.0, inl gone.1)) clears.companion) in (
      record {
        leads = leads;
        disk = ⊎_elim (λ same. inl (here ∙ same)) (λ it. inr (it.0, here ∙ it.1)) makes.disk;
        companion = bare_both (x.stands (companion_of x path)) (y.stands (companion_of x path)) (z.stands (companion_of x path)) (bare_made _ _ makes.companion) cleared;
        others = λ place disk companion. clears.others place (λ is. companion (is ∙ at)) ∙ makes.others place disk companion;
      },
      here,
    )

pub made_touches : (path : List ℕ) (x y : Places) → Makes path x y → TouchesOnly path x y
made_touches path x y makes = record {
  leads = makes.leads;
  disk = makes.made;
  companion = inl (makes.others (companion_of x path) (λ is. longer (x.leads path) (sym is)));
  others = λ place disk companion. makes.others place disk;
}

made_twice : (x y z : Standing) → IsSameOrMade x y → IsSameOrMade y z → IsSameOrMade x z
made_twice x y z one next = ⊎_elim
    (λ same. ⊎_elim (λ was. inl (same ∙ was)) (λ it. inr (it.0, same ∙ it.1)) one)
    (λ it. ⊎_elim (λ was. inr (sym was ∙ it.0, it.1)) (λ before. inr (before.0, it.1)) one)
    next

pub touches_both : (path : List ℕ) (x y z : Places) → TouchesOnly path x y → TouchesOnly path y z → TouchesOnly path x z
touches_both path x y z one next =
    let at : companion_of y path ≡ companion_of x path = same_companion x y path one.leads in
    record {
      leads = next.leads ∙ one.leads;
      disk = made_twice (found_at x path) (found_at y path) (found_at z path) one.disk next.disk;
      companion = bare_both (x.stands (companion_of x path)) (y.stands (companion_of x path)) (z.stands (companion_of x path)) one.companion
          (subst (λ (c : List ℕ). IsSameOrBare (y.stands c) (z.stands c)) at next.companion);
      others = λ place disk companion.
          next.others place (λ is. disk (is ∙ ap (λ (l : List ℕ → List ℕ). l path) one.leads)) (λ is. companion (is ∙ at)) ∙ one.others place disk companion;
    }

pub same_touches : (path : List ℕ) (x y : Places) → y ≡ x → TouchesOnly path x y
same_touches path x y same = record {
  leads = ap (λ (p : Places). p.leads) same;
  disk = inl (ap (λ (p : Places). found_at p path) same);
  companion = inl (ap (λ (p : Places). p.stands (companion_of x path)) same);
  others = λ place disk companion. ap (λ (p : Places). p.stands place) same;
}

pub same_found : (path : List ℕ) (x y : Places) → y ≡ x → found_at y path ≡ found_at x path
same_found path x y same = ap (λ (p : Places). found_at p path) same

-- a trail that begins with these bytes has them now
pub ok_bytes : {T : Type 0} (trail : T → Trail) (bytes : List ℕ) (result : Result T FileFault) → IfOk result (λ d. trail d ≡ fresh_trail bytes)
    → IfOk result (λ d. (trail d).now.bytes ≡ bytes)
ok_bytes trail bytes (Ok d) is = ap (λ (t : Trail). t.now.bytes) is
ok_bytes trail bytes (Err fault) is = tt
