-- What the lot decides if seats are tied, in the numbers of the set-up.
use Rattle.std.specs.Prelude.{◌≡◌, ℕ, Bool, Option, Some, None, List, length}
use Rattle.zh_districts.specs.Claims.{IsTiedIn, Tell}
use Rattle.zh_matrices.specs.Lots.{AreRanges}
use Rattle.zh_quorum.specs.Quorum.{AreParticipating}
use Rattle.zh_totals.specs.Totals.{VoteTotals}
use Rattle.zh_upper.specs.Ranges.{AreUpperRanges}
use Rattle.zh_upper.specs.VoterNumbers.{AreVoterSums}
use Rattle.zh_upper.specs.declared.ranges.SeatRanges.{SeatRanges}
use Rattle.zh_upper.specs.declared.fault.UpperRefusal.TheVariants.{Tied}
use Rattle.zh_sheet.specs.Distribution.{HaveSeats, Targets, lower_question, seated_groups}
use Rattle.zh_sheet.specs.ListRanges.{RangesOfLists}
use Rattle.zh_sheet.specs.declared.lot.Lot.{Lot}
use Rattle.zh_sheet.specs.declared.lot.Lot.TheVariants.{Constituencies, Groups, Lists}
use Rattle.zh_sheet.specs.declared.fault.SheetRefusal.{SheetRefusal}
use Rattle.zh_sheet.specs.declared.fault.SheetRefusal.TheVariants as refusals

-- the fewest and the most seats of each group in the whole canton, in order, over all seats that fit
pub record AreGroupRanges (totals : VoteTotals) (x : SeatRanges) : Type 0 where
  pub seats : List ℕ
  pub constituencies : HaveSeats totals seats
  pub taking : List Bool
  pub participation : AreParticipating totals taking
  pub voters : List ℕ
  pub sums : AreVoterSums totals seats voters
  pub ranges : AreUpperRanges voters taking totals.canton.house x.least.items x.most.items

-- the fewest and the most seats of each list of the seated groups, over all matrices that may be drawn
pub record AreListRanges (totals : VoteTotals) (x : RangesOfLists) : Type 0 where
  pub targets : Targets totals
  pub constituencies : x.constituencies ≡ length totals.canton.constituencies
  pub groups : x.groups ≡ seated_groups targets.upper
  pub ranges : AreRanges (lower_question totals targets.seats targets.upper) x.least x.most

-- the refusal says that the seats of the constituencies, of the groups or of the lists are tied
abbrev pub IsForTheLot : SheetRefusal → Type 0
IsForTheLot refusals.TiedSeats = Unit {0}
IsForTheLot (refusals.NoUpperSeats Tied) = Unit {0}
IsForTheLot (refusals.TiedLower d g) = Unit {0}
IsForTheLot refusal = ⊥

-- what the lot decides between: the constituencies that are tied, which are marked, or the seats of the groups or of the lists,
-- with the fewest and the most of each
abbrev pub IsLotOf : VoteTotals → SheetRefusal → Lot → Type 0
IsLotOf totals refusals.TiedSeats (Constituencies marks) =
    Tell (IsTiedIn totals.canton) (length totals.canton.constituencies) marks.items
IsLotOf totals (refusals.NoUpperSeats Tied) (Groups x) = AreGroupRanges totals x
IsLotOf totals (refusals.TiedLower d g) (Lists x) = AreListRanges totals x
IsLotOf totals refusal lot = ⊥

-- there is something for the lot to decide if and only if the refusal is one of the three ties
abbrev pub IsLotFor : VoteTotals → SheetRefusal → Option Lot → Type 0
IsLotFor totals refusal (Some lot) = IsLotOf totals refusal lot
IsLotFor totals refusal None = ¬ IsForTheLot refusal
