-- Why there is no sheet, with everything that was found out about it, in the numbers of the set-up.
use Rattle.std.specs.Prelude.{◌≡◌, ℕ, ◌-◌, Bool, List, Result, Ok, Err, slice_index}
use Rattle.zh_matrices.specs.Divisors.{Divisors}
use Rattle.zh_matrices.specs.NearlyTied.{IsClear, IsNearlyTied}
use Rattle.zh_matrices.specs.Question.{Question}
use Rattle.zh_matrices.specs.SeatMatrix.{IsStrict, IsWeak}
use Rattle.zh_decided.specs.Impossible.{HasTooFewSeats, IsPossible}
use Rattle.zh_decided.specs.Boxes.{NoneInRange}
use Rattle.zh_lower.specs.Ties.{IsLowerTie}
use Rattle.zh_totals.specs.Totals.{VoteTotals}
use Rattle.zh_sheet.specs.Distribution.{Distribution, Targets, lower_question, seated_groups}
use Rattle.zh_sheet.specs.ListSeats.{SeatsOfLists}
use Rattle.zh_sheet.specs.Made.{IsMade}
use Rattle.zh_sheet.specs.Refusals.{IfRefused, IsBeforeSearch}
use Rattle.zh_sheet.specs.Stages.{IsAsked, question_in}
use Rattle.zh_sheet.specs.declared.fault.SheetFault.{SheetFault}
use Rattle.zh_sheet.specs.declared.fault.SheetFault.TheVariants.{Refused}
use Rattle.zh_sheet.specs.declared.fault.SheetRefusal.TheVariants as refusals
use Rattle.zh_sheet.specs.declared.reason.ExhaustedReason.{ExhaustedReason}
use Rattle.zh_sheet.specs.declared.reason.ExhaustedReason.TheVariants.{Beyond, Impossible, NearlyTied}
use Rattle.zh_sheet.specs.declared.reason.ListTie.{ListTie}
use Rattle.zh_sheet.specs.declared.reason.NoSheet.{NoSheet}
use Rattle.zh_sheet.specs.declared.reason.NoSheet.TheVariants.{Exhausted, Fault, Tied}

-- some seats meet all totals, and two matrices are nearly tied: they differ first in constituency d and in group g, which has a
-- column
pub record IsTieAmong (q : Question) (groups : List ℕ) (d g : ℕ) : Type 0 where
  pub possible : IsPossible q
  pub column : ℕ
  pub of_group : slice_index groups (column - 1) ≡ g
  pub tied : IsNearlyTied q d column

-- these seats of the lists follow from some divisors, with no quotient on a half; the columns are `groups`
pub record AreSeatsAmong (q : Question) (groups : List ℕ) (x : SeatsOfLists) : Type 0 where
  pub rows : x.constituencies ≡ q.rows
  pub groups_are : x.groups ≡ groups
  pub divisors : Divisors
  pub strict : IsStrict q divisors x.seats

-- what a reason says about a question whose columns are `groups`
abbrev pub IsReasonAmong : Question → List ℕ → ExhaustedReason → Type 0
IsReasonAmong q groups (Impossible rows) = HasTooFewSeats q rows
IsReasonAmong q groups (NearlyTied d g) = IsTieAmong q groups d g
IsReasonAmong q groups (Beyond x) = AreSeatsAmong q groups x × ((seats : List ℕ) → NoneInRange q seats)

-- the question for the lower apportionment with these targets
abbrev pub asked_below : (totals : VoteTotals) → Targets totals → Question
asked_below totals targets = lower_question totals targets.seats targets.upper

-- the seated groups with votes in these constituencies together have fewer seats than the constituencies; so no seats follow
-- from any divisors of any scale, even with halves rounded either way
pub record HaveTooFewSeats (totals : VoteTotals) (constituencies : List Bool) : Type 0 where
  pub targets : Targets totals
  pub too_few : HasTooFewSeats (asked_below totals targets) constituencies
  pub none : (others : Targets totals) (divisors : Divisors) (seats : List ℕ) → ¬ IsWeak (asked_below totals others) divisors seats

-- two matrices of the seats of the lists are nearly tied; so no divisors of any scale give seats with each quotient clear of
-- every half by the factor 1 + 2^-17
pub record AreNearlyTiedBelow (totals : VoteTotals) (d g : ℕ) : Type 0 where
  pub targets : Targets totals
  pub tied : IsTieAmong (asked_below totals targets) (seated_groups targets.upper) d g
  pub none_clear : (others : Targets totals) (divisors : Divisors) (seats : List ℕ) → ¬ IsClear (asked_below totals others) divisors seats

-- these seats of the lists follow from some divisors, with no quotient on a half, and no divisors of any scale give others,
-- even with halves rounded either way
pub record AreOnlySeats (totals : VoteTotals) (x : SeatsOfLists) : Type 0 where
  pub targets : Targets totals
  pub follow : AreSeatsAmong (asked_below totals targets) (seated_groups targets.upper) x
  pub only : (others : Targets totals) (divisors : Divisors) (seats : List ℕ) → IsWeak (asked_below totals others) divisors seats →
      seats ≡ x.seats

-- the only seats; no divisors in millionths give any, if those of groups are from 1.05 to 999,900 and those of constituencies
-- from 1.05 to 999,900,000,000
pub record AreBeyondSheets (totals : VoteTotals) (x : SeatsOfLists) : Type 0 where
  pub seats : AreOnlySeats totals x
  pub none : (others : Targets totals) (seats : List ℕ) → NoneInRange (asked_below totals others) seats

abbrev pub IsReason : VoteTotals → ExhaustedReason → Type 0
IsReason totals (Impossible constituencies) = HaveTooFewSeats totals constituencies
IsReason totals (NearlyTied d g) = AreNearlyTiedBelow totals d g
IsReason totals (Beyond x) = AreBeyondSheets totals x

-- the fault, without what was found out
abbrev pub sheet_fault : NoSheet → SheetFault
sheet_fault (Fault fault) = fault
sheet_fault (Tied d g tie) = Refused (refusals.TiedLower d g)
sheet_fault (Exhausted reason) = Refused refusals.Exhausted

abbrev pub sheet_or_fault : Result Distribution NoSheet → Result Distribution SheetFault
sheet_or_fault (Ok sheet) = Ok sheet
sheet_or_fault (Err none) = Err (sheet_fault none)

-- a tie in the question that these totals lead to
pub record IsListTie (totals : VoteTotals) (x : ListTie) : Type 0 where
  pub asked : IsAsked totals x.asked
  pub tie : IsLowerTie (question_in x.asked) x.tie

-- what was found out is true: a tie that the search reaches, or why the search is exhausted; a fault says nothing more than
-- that it comes before the search
abbrev pub IsKnown : VoteTotals → NoSheet → Type 0
IsKnown totals (Fault fault) = IfRefused fault IsBeforeSearch
IsKnown totals (Tied d g tie) = IsListTie totals tie
IsKnown totals (Exhausted reason) = IsReason totals reason

-- there is no sheet of these totals, and this is why
pub record HaveNoSheet (totals : VoteTotals) (none : NoSheet) : Type 0 where
  pub made : IsMade totals (Err (sheet_fault none))
  pub known : IsKnown totals none
