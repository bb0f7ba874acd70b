-- The verdict of a check of a sheet.
use Rattle.std.specs.Prelude.{◌≡◌, ◌≢◌, ℕ, List, Bool, true, false, Option, option_map}
use Rattle.zh_check.specs.Verdicts.{IsReasonOf, IsRightExactly}
use Rattle.zh_check.specs.declared.checked.RightSheet.{RightSheet}
use Rattle.zh_check.specs.declared.checked.SheetVerdict.{SheetVerdict}
use Rattle.zh_check.specs.declared.checked.SheetVerdict.TheVariants.{Right}
use Rattle.zh_districts.specs.Canton.{Canton}
use Rattle.zh_csv.specs.declared.held_sums.HeldSums.{HeldSums}
use Rattle.zh_tables.specs.HeldRows.{rows_held}
use Rattle.zh_totals.specs.Totals.{VoteTotals}
use Rattle.zh_verdicts.specs.Text.{verdict_text}

-- the inputs of a check: a set-up, a sheet, and the sums of an export if there is one
pub record Inputs : Type 0 where
  pub canton : Canton
  pub sheet : List ℕ
  pub held : Option HeldSums

-- the totals of the export, if there is one
abbrev pub totals_held : Inputs → Option VoteTotals
totals_held inputs = option_map (λ sums. sums.totals) inputs.held

-- the verdict on these inputs: right if and only if the sheet is right, with the reason
pub record ComesTo (inputs : Inputs) (verdict : SheetVerdict) : Type 0 where
  pub exactly : IsRightExactly inputs.canton (totals_held inputs) inputs.sheet verdict
  pub reason : IsReasonOf inputs.canton (totals_held inputs) inputs.sheet verdict

abbrev pub check_text : Inputs → SheetVerdict → List ℕ
check_text inputs verdict = verdict_text (option_map (λ sums. rows_held inputs.canton sums.rows) inputs.held) verdict

-- the verdict says that the sheet is wrong: it is not `Right`
abbrev pub SaysWrong : SheetVerdict → Type 0
SaysWrong verdict = (right : RightSheet) → verdict ≢ Right right

-- the text is that of the verdict on the inputs, which is right or wrong as the flag says
abbrev pub IsVerdict : Inputs → Bool → List ℕ → Type 0
IsVerdict inputs true text = (right : RightSheet) × ComesTo inputs (Right right) × (text ≡ check_text inputs (Right right))
IsVerdict inputs false text = (verdict : SheetVerdict) × ComesTo inputs verdict × SaysWrong verdict × (text ≡ check_text inputs verdict)
