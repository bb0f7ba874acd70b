-- A sheet that the check does not find right is not a right sheet in any reading.
use Rattle.std.proofs.Common.{◌≢◌, List, Option, refl, ℕ}
use Rattle.zh_districts.specs.Canton.{Canton}
use Rattle.zh_totals.specs.Totals.{VoteTotals}
use Rattle.zh_check.specs.Verdicts.{IsRight, IsRightExactly}
use Rattle.zh_check.specs.declared.checked.RightSheet.{RightSheet}
use Rattle.zh_check.specs.declared.checked.SheetVerdict.{SheetVerdict}
use Rattle.zh_check.specs.declared.checked.SheetVerdict.TheVariants.{Right}

pub right_in_no_way : (canton : Canton) (held : Option VoteTotals) (bytes : List ℕ) (verdict : SheetVerdict) → IsRightExactly canton held bytes verdict
    → ((c : RightSheet) → verdict ≢ Right c) → (c : RightSheet) → ¬ IsRight canton held bytes c
right_in_no_way canton held bytes (Right found) is other c = absurd (other found refl)
right_in_no_way canton held bytes verdict is other c = is c
