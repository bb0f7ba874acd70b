-- The calls of files before a task has its disk.
use Rattle.std.proofs.Common.{◌≡◌, ◌≢◌, ◌∙◌, ℕ, List, Option, Result, IfOk, refl, subst, inl, inr, ⊎_elim, arith}
use Rattle.std.specs.Prelude.{IfSome}
use Rattle.zh_disk.specs.declared.disk.Disk.{Ghosts as Disks}
use Rattle.zh_file.specs.Files.{Begins, IsAsFound, IsCallOfFiles, LeavesNoMore, LeavesOf}
use Rattle.zh_file.specs.Places.{TouchesOnly, IfKnown, Places}
use Rattle.zh_file.specs.Failures.{ForgetsNone}
use Rattle.zh_file.proofs.CallerLemmas.{after_stay, goes_itself, met_within}
use Rattle.zh_file.specs.declared.files.Files.{Ghosts as Files}
use Rattle.zh_file.specs.declared.fault.FileFault.{FileFault}
use Rattle.zh_file.specs.Causes.{IsFaultIn}
use Rattle.zh_program.specs.World.{AreCalls, AsksForDisk, BeginsAt, IsMetAt, LeftAt}
use Rattle.zh_program.specs.declared.on_disk.Work.{Work}
use Rattle.zh_program.specs.declared.on_disk.Work.TheVariants.{Format}

-- A text, then the disk at this path.
pub disk_after : {F T D R : Type 0} (files : Files F T D R) (path : List ℕ) (old mid new : F) → AreCalls files 1 old mid
    → IsCallOfFiles files.text_at files.disk_at files.calls mid new → IfKnown (TouchesOnly path) (files.places mid) (files.places new) → AsksForDisk files path old new
disk_after files path old mid new one other touches = record {
  counted = omega (arith, one.counted, other.counted);
  texts = other.texts ∙ one.texts;
  disks = other.disks ∙ one.disks;
  touches = after_stay (TouchesOnly path) (files.places old) (files.places mid) (files.places new) one.stays touches;
}

-- What is known of a disk is the same with one call before it.
pub known_before : {F : Type 0} (at : F → List ℕ → Option (List ℕ)) (old mid : F) (path : List ℕ) (P : Option (List ℕ) → Type 0)
    → at mid ≡ at old → P (at mid path) → P (at old path)
known_before at old mid path P same by = subst (λ (f : List ℕ → Option (List ℕ)). P (f path)) same by

-- A fault that is met after a call that touches nothing is right about what was there before that call.
pub met_before : {F T D R : Type 0} (files : Files F T D R) (path : List ℕ) (old mid new : F) → files.places mid ≡ files.places old
    → ForgetsNone (files.failed old) (files.failed mid) → (fault : FileFault) → IsMetAt files path mid new fault → IsMetAt files path old new fault
met_before files path old mid new same goes fault met = (
  met.0,
  subst (λ (known : Option Places). IsFaultIn known path fault) same met.1,
  met_within path fault (files.failed old) (files.failed mid) (files.failed new) (files.failed new) goes (goes_itself (files.failed new)) met.2,
)

-- What a stop may leave is the same with one call before it that leaves nothing more.
pub leaves_after : {F : Type 0} (at : F → List ℕ → Option (List ℕ)) (left : F → List ℕ → Type 0) (IsLeft : List ℕ → List ℕ → Type 0) (old mid new : F) (path : List ℕ)
    → at mid ≡ at old → LeavesNoMore (left old) (left mid) → LeavesOf IsLeft (at mid path) (left mid) (left new) → LeavesOf IsLeft (at old path) (left old) (left new)
leaves_after at left IsLeft old mid new path same one by = λ c here. ⊎_elim
    (λ was. inl (one c was))
    (λ is. inr (subst (λ (f : List ℕ → Option (List ℕ)). IfSome (f path) (λ bytes. IsLeft bytes c)) same is))
    (by c here)

pub leaves_none : (IsLeft : List ℕ → List ℕ → Type 0) (known : Option (List ℕ)) (old new : List ℕ → Type 0) → LeavesNoMore old new → LeavesOf IsLeft known old new
leaves_none IsLeft known old new one = λ c here. inl (one c here)

-- Without a formatting, no disk is created.
pub begins_there : {D : Type 0} (disks : Disks D) (work : Work) → work ≢ Format → (known : Option (List ℕ)) (result : Result D FileFault)
    → IfOk result (λ disk. Begins known (disks.history disk)) → IfOk result (λ disk. BeginsAt work known (disks.history disk))
begins_there disks Format other known result begins = absurd (other refl)
begins_there disks work other known result begins = begins

pub left_there : (work : Work) → work ≢ Format → (known : Option (List ℕ)) (old new : List ℕ → Type 0)
    → LeavesOf IsAsFound known old new → LeavesOf (LeftAt work) known old new
left_there Format other known old new leaves = absurd (other refl)
left_there work other known old new leaves = leaves
