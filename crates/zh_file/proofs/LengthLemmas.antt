-- Measuring what is at a path.
use Rattle.std.proofs.Common.{◌≡◌, ℕ, List, Option, Some, None, Ok, Err, refl, inl, inr, arith}
use Rattle.std.specs.IoError.{error_kind}
use Rattle.std.specs.declared.io.Error.{Error}
use Rattle.zh_file.specs.Causes.{IsLength, fault_of_kind}
use Rattle.zh_file.specs.Places.{IfKnown, Places, Standing, found_at}
use Rattle.zh_file.specs.Places.Standing.{nothing, file, folder, other}
use Rattle.zh_file.specs.Folder.{Folders, IsCounted, IsKind, LooksAt, SaysWhy}
use Rattle.zh_file.specs.Steps.{GoesAhead, IsUnmeasured, Measures}
use Rattle.zh_file.specs.declared.fault.FileCause.TheVariants as causes
use Rattle.zh_file.specs.declared.fault.FileFault.TheVariants as faults
use Rattle.zh_file.specs.declared.folder.Found.{Found}
use Rattle.zh_file.specs.declared.folder.Found.TheVariants as kinds
use Rattle.zh_file.proofs.FolderLemmas.{map_known, of_kind}

kind_length : (standing : Standing) (n : ℕ) → IsKind standing (kinds.File n) → IsLength standing n
kind_length nothing n is = absurd is
kind_length (file bytes) n is = is
kind_length folder n is = absurd is
kind_length other n is = absurd is

kind_folder : (standing : Standing) → IsKind standing kinds.Folder → standing ≡ folder
kind_folder nothing is = absurd is
kind_folder (file bytes) is = absurd is
kind_folder folder is = refl
kind_folder other is = absurd is

kind_other : (standing : Standing) → IsKind standing kinds.Other → standing ≡ other
kind_other nothing is = absurd is
kind_other (file bytes) is = absurd is
kind_other folder is = absurd is
kind_other other is = refl

looked_goes : (found : Found) (x y : Folders) → IsCounted (Ok found) x y → GoesAhead x y
looked_goes found x y counted = let failed = counted.failed in record { failed = omega (arith, failed); refused = counted.refused }

module _ (path : List ℕ) (a b : Option Folders) where
  abbrev pub Looks : Found → Folders → Folders → Type 0
  Looks found = LooksAt (λ (places : Places). IsKind (found_at places path)) (Ok found)

  pub file_measured : (n : ℕ) → IfKnown (Looks (kinds.File n)) a b → IfKnown (Measures path (Ok n)) a b
  file_measured n looks = map_known (Looks (kinds.File n)) (Measures path (Ok n)) a b
      (λ x y by. record {
        same = by.same;
        goes = looked_goes (kinds.File n) x y by.counted;
        length = kind_length (found_at x.places path) n by.said;
        cause = tt;
      })
      looks

  pub folder_unmeasured : IfKnown (Looks kinds.Folder) a b → IfKnown (Measures path (Err (faults.Device causes.Folder))) a b
  folder_unmeasured looks = map_known (Looks kinds.Folder) (Measures path (Err (faults.Device causes.Folder))) a b
      (λ x y by. let is = kind_folder (found_at x.places path) by.said in record {
        same = by.same;
        goes = looked_goes kinds.Folder x y by.counted;
        length = tt;
        cause = (is, inr (inl is));
      })
      looks

  pub other_unmeasured : IfKnown (Looks kinds.Other) a b → IfKnown (Measures path (Err (faults.Device causes.Special))) a b
  other_unmeasured looks = map_known (Looks kinds.Other) (Measures path (Err (faults.Device causes.Special))) a b
      (λ x y by. let is = kind_other (found_at x.places path) by.said in record {
        same = by.same;
        goes = looked_goes kinds.Other x y by.counted;
        length = tt;
        cause = (is, inr (inr is));
      })
      looks

-- the call that was to look at it failed
pub call_unmeasured : {T : Type 0} (says : Places → T → Type 0) (path : List ℕ) (error : Error) (a b : Option Folders) → IfKnown (LooksAt says (Err error)) a b
    → SaysWhy {T = T} a path (Err error) → IfKnown (Measures path (Err (fault_of_kind (error_kind error)))) a b
call_unmeasured says path error None b call why = call
call_unmeasured says path error (Some x) None call why = absurd call
call_unmeasured says path error (Some x) (Some y) call why =
    let failed = call.counted.failed in
    record {
      same = call.same;
      goes = record { failed = omega (arith, failed); refused = call.counted.refused };
      length = tt;
      cause = of_kind (IsUnmeasured path x y) tt (error_kind error) (why, inl (omega (arith, failed)));
    }
