-- The result of the votes of an election: its sheet, or why there is none.
use Rattle.std.specs.Prelude.{◌≡◌, ℕ, List, Result, IfOk}
use Rattle.zh_matrices.specs.Divisors.{Divisors}
use Rattle.zh_matrices.specs.SeatMatrix.{IsWeak}
use Rattle.zh_lower.specs.Shown.{IsShown}
use Rattle.zh_totals.specs.Totals.{VoteTotals}
use Rattle.zh_sheet.specs.Distribution.{Distribution, IsDistribution, question_of}
use Rattle.zh_sheet.specs.Refusals.{IsAnswer}
use Rattle.zh_sheet.specs.declared.fault.SheetFault.{SheetFault}

-- the distribution of the seats for these totals: each part follows from those before it, no divisors give other seats, and the
-- divisors of the lists are those that a sheet shows
pub record IsSheetOf (totals : VoteTotals) (sheet : Distribution) : Type 0 where
  pub votes : sheet.totals ≡ totals
  pub meets : IsDistribution sheet
  pub shown : IsShown (question_of sheet) sheet.lower.divisors
  pub one_answer : (divisors : Divisors) (seats : List ℕ) → IsWeak (question_of sheet) divisors seats → seats ≡ sheet.lower.seats

-- a sheet of these totals, or the first reason why there is none
pub record IsMade (totals : VoteTotals) (made : Result Distribution SheetFault) : Type 0 where
  pub sheet : IfOk made (IsSheetOf totals)
  pub refused : IsAnswer totals made
