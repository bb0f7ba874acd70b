-- A `FailingDisk` with `fails_once` behaves as a disk that fails once.
use Rattle.std.proofs.Common.{◌≡◌, ℕ, zero, suc, true, Option, Some, None, Result, refl, sym, ◌∙◌, ap, add-one}
use Rattle.std.specs.Prelude.{◌≢◌}
use Rattle.zh_disk.specs.declared.disk.DiskFault.{DiskFault}
use Rattle.zh_disk.specs.declared.failing.FailingDisk.{FailingDisk}
use Rattle.zh_disk.specs.History.{History}
use Rattle.zh_disk.specs.Failing.{FailsAfter, IsOneCall, inside, calls_left, fails_once}

-- every call except the first that fails is one call of the disk inside
module _ {D : Type 0} (history : D → History) (last : D → D → Type 0) (old new : FailingDisk D) (result : Result (Unit {0}) DiskFault)
    (failing : FailsAfter history last old new result) (once : fails_once old ≡ true) where
  passes_at : (left : Option ℕ) → calls_left old ≡ left → left ≢ Some 0 → IsOneCall history (inside old) (inside new) result
  passes_at None is other = failing.mended is once
  passes_at (Some zero) is other = absurd (other refl)
  passes_at (Some (suc n)) is other = failing.passes n (is ∙ ap Some (sym (add-one n)))

  pub passes_once : calls_left old ≢ Some 0 → IsOneCall history (inside old) (inside new) result
  passes_once other = passes_at (calls_left old) refl other
