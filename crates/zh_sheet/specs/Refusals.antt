-- Why there is no sheet: of these cases, in this order, the first that holds decides.
use Rattle.std.specs.Prelude.{◌≡◌, ℕ, ◌-◌, ◌^◌, ◌<◌, ◌≤◌, Bool, List, ◌∷◌, ◌++◌, Result, IfErr, IsErrOf, ◌⊎◌}
use Rattle.std.specs.Prelude.{length, slice_index, codes, decimal}
use Rattle.zh_districts.specs.Seats.{AreSeats, IsFirstWithout, persons}
use Rattle.zh_districts.specs.SeatNames.{seats_name}
use Rattle.zh_districts.specs.declared.shares.SeatFault.TheVariants as of_seats
use Rattle.zh_divisors.specs.Fit as fits
use Rattle.zh_matrices.specs.Divisors.{Divisors}
use Rattle.zh_decided.specs.Boxes.{NoneGiven}
use Rattle.zh_lower.specs.Outcomes.{ComesToTie, NoneBefore}
use Rattle.zh_matrices.specs.Question.{IsFirstWithoutVotes}
use Rattle.zh_matrices.specs.SeatMatrix.{IsStrict}
use Rattle.zh_quorum.specs.Quorum.{AreParticipating}
use Rattle.zh_totals.specs.Totals.{VoteTotals}
use Rattle.zh_upper.specs.Refusals.{HaveNoUpperSeats, upper_refusal_name}
use Rattle.zh_upper.specs.VoterNumbers.{AreVoterSums}
use Rattle.zh_upper.specs.declared.fault.UpperRefusal.{UpperRefusal}
use Rattle.zh_sheet.specs.Distribution.{HaveSeats, Targets, lower_question, seated_groups}
use Rattle.zh_sheet.specs.declared.fault.SheetFault.{SheetFault}
use Rattle.zh_sheet.specs.declared.fault.SheetFault.TheVariants.{Memory, Refused}
use Rattle.zh_sheet.specs.declared.fault.SheetRefusal.{SheetRefusal}
use Rattle.zh_sheet.specs.declared.fault.SheetRefusal.TheVariants as refusals

-- this constituency is the first that gets no seat
pub record GetsNoSeat (totals : VoteTotals) (d : ℕ) : Type 0 where
  pub seats : List ℕ
  pub in_proportion : AreSeats totals.canton seats
  pub first : IsFirstWithout seats d

-- the groups get no seats, for this reason
pub record IsRefusedAbove (totals : VoteTotals) (refusal : UpperRefusal) : Type 0 where
  pub seats : List ℕ
  pub constituencies : HaveSeats totals seats
  pub taking : List Bool
  pub participation : AreParticipating totals taking
  pub voters : List ℕ
  pub sums : AreVoterSums totals seats voters
  pub reason : HaveNoUpperSeats voters taking totals.canton.house refusal

-- this constituency is the first in which the seated groups have no votes
pub record HasNoVotes (totals : VoteTotals) (d : ℕ) : Type 0 where
  pub targets : Targets totals
  pub first : IsFirstWithoutVotes (lower_question totals targets.seats targets.upper) d

-- the search reaches divisors from which two different matrices follow; their first quotient on a half is that of group g in
-- constituency d
pub record IsTiedBelow (totals : VoteTotals) (d g : ℕ) : Type 0 where
  pub targets : Targets totals
  pub column : ℕ
  pub column_from_one : 1 ≤ column
  pub column_there : column ≤ length (seated_groups targets.upper)
  pub of_group : slice_index (seated_groups targets.upper) (column - 1) ≡ g
  pub tied : ComesToTie (lower_question totals targets.seats targets.upper) d column

-- no state of the search gives seats or is tied, and the decision gives no divisors in millionths
pub record IsExhausted (totals : VoteTotals) : Type 0 where
  pub targets : Targets totals
  pub none : NoneBefore (lower_question totals targets.seats targets.upper) 2001
  pub none_given : NoneGiven (lower_question totals targets.seats targets.upper)

-- the case of each refusal
abbrev pub IsCaseOf : VoteTotals → SheetRefusal → Type 0
IsCaseOf totals refusals.TiedSeats = fits.IsTied (persons totals.canton) totals.canton.house
IsCaseOf totals (refusals.NoSeat d) = GetsNoSeat totals d
IsCaseOf totals (refusals.NoUpperSeats refusal) = IsRefusedAbove totals refusal
IsCaseOf totals (refusals.NoVotes d) = HasNoVotes totals d
IsCaseOf totals (refusals.TiedLower d g) = IsTiedBelow totals d g
IsCaseOf totals refusals.Exhausted = IsExhausted totals

-- the place of a refusal in the order of the cases
abbrev pub place_in_order : SheetRefusal → ℕ
place_in_order refusals.TiedSeats = 1
place_in_order (refusals.NoSeat d) = 2
place_in_order (refusals.NoUpperSeats refusal) = 3
place_in_order (refusals.NoVotes d) = 4
place_in_order (refusals.TiedLower d g) = 5
place_in_order refusals.Exhausted = 5

-- the name of each refusal; 32 is the space
abbrev pub refusal_name : SheetRefusal → List ℕ
refusal_name refusals.TiedSeats = seats_name of_seats.Tied
refusal_name (refusals.NoSeat constituency) = seats_name (of_seats.NoSeat constituency)
refusal_name (refusals.NoUpperSeats refusal) = upper_refusal_name refusal
refusal_name (refusals.NoVotes constituency) = codes "novotes " ++ decimal constituency
refusal_name (refusals.TiedLower constituency group) = codes "tied lower " ++ decimal constituency ++ 32 ∷ decimal group
refusal_name refusals.Exhausted = codes "exhausted"

-- the numbers of a refusal fit their type
abbrev pub IsSheetRefusal : SheetRefusal → Type 0
IsSheetRefusal (refusals.NoSeat constituency) = constituency < 2 ^ 32
IsSheetRefusal (refusals.NoVotes constituency) = constituency < 2 ^ 32
IsSheetRefusal (refusals.TiedLower constituency group) = (constituency < 2 ^ 32) × (group < 2 ^ 32)
IsSheetRefusal refusal = Unit {0}

-- the refusal comes before those of the lists, the first of which is a constituency without votes, whatever its number
abbrev pub IsBeforeLists : SheetRefusal → Type 0
IsBeforeLists refusal = place_in_order refusal < place_in_order (refusals.NoVotes 0)

-- the refusal comes before those of the search
abbrev pub IsBeforeSearch : SheetRefusal → Type 0
IsBeforeSearch refusal = place_in_order refusal < place_in_order refusals.Exhausted

-- no refusal of this kind has a case that holds
abbrev pub NoneOf : (SheetRefusal → Type 0) → VoteTotals → Type 0
NoneOf Of totals = (refusal : SheetRefusal) → Of refusal → ¬ IsCaseOf totals refusal

-- the case of this refusal is the first that holds
pub record IsFirstCase (totals : VoteTotals) (refusal : SheetRefusal) : Type 0 where
  pub holds : IsCaseOf totals refusal
  pub first : NoneOf (λ other. place_in_order other < place_in_order refusal) totals

-- No divisors of any scale give seats of the lists for these totals without a half, whatever seats of the constituencies and of
-- the groups they are to add up to.
abbrev pub LeaveNoSeats : VoteTotals → Type 0
LeaveNoSeats totals = (targets : Targets totals) (divisors : Divisors) (seats : List ℕ) →
    ¬ IsStrict (lower_question totals targets.seats targets.upper) divisors seats

-- the refusal has the property P; nothing is said if memory was refused, which is possible at any time
abbrev pub IfRefused : SheetFault → (SheetRefusal → Type 0) → Type 0
IfRefused Memory P = Unit {0}
IfRefused (Refused refusal) P = P refusal

-- each refusal that is given is that of the first case that holds; those before the search are always given if they are the
-- first, unless memory is refused; at a tie of the lower apportionment, no seats follow strictly
pub record IsAnswer {Sheet : Type 0} (totals : VoteTotals) (result : Result Sheet SheetFault) : Type 0 where
  pub refused : IfErr result (λ fault. IfRefused fault (IsFirstCase totals))
  pub exactly : (refusal : SheetRefusal) → IsBeforeSearch refusal → IsFirstCase totals refusal →
      IsErrOf result (Refused refusal) ⊎ IsErrOf result Memory
  pub tied : (d g : ℕ) → IsErrOf result (Refused (refusals.TiedLower d g)) → LeaveNoSeats totals
