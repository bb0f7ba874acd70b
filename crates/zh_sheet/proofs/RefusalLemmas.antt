-- Only one of the cases, in their order, decides.
use Rattle.std.proofs.Common.{◌≡◌, ℕ, ◌<◌, List, Ok, Err, refl, inl, inr, ap, sym, arith}
use Rattle.std.proofs.lemmas.Bool.{cases_order}
use Rattle.zh_totals.specs.Totals.{VoteTotals}
use Rattle.zh_sheet.specs.Distribution.{Distribution, HaveSeats}
use Rattle.zh_sheet.specs.Made.{IsMade}
use Rattle.zh_districts.specs.declared.shares.SeatFault.{SeatFault}
use Rattle.zh_districts.specs.declared.shares.SeatFault.TheVariants as seat_faults
use Rattle.zh_upper.specs.declared.fault.UpperFault.{UpperFault}
use Rattle.zh_upper.specs.declared.fault.UpperFault.TheVariants as upper_faults
use Rattle.zh_upper.specs.declared.fault.UpperRefusal.{UpperRefusal}
use Rattle.zh_sheet.specs.Stages.{IsAboveLists, of_seats, of_upper}
use Rattle.zh_sheet.specs.Refusals.{HasNoVotes, IfRefused, IsAnswer, IsBeforeLists, IsBeforeSearch, IsCaseOf, IsFirstCase, IsRefusedAbove, LeaveNoSeats, NoneOf, place_in_order}
use Rattle.zh_sheet.specs.declared.fault.SheetFault.{SheetFault}
use Rattle.zh_sheet.specs.declared.fault.SheetFault.TheVariants.{Memory, Refused}
use Rattle.zh_sheet.specs.declared.fault.SheetRefusal.{SheetRefusal}
use Rattle.zh_sheet.specs.declared.fault.SheetRefusal.TheVariants as refusals
use Rattle.zh_sheet.proofs.TargetLemmas.{none_without, not_tied, same_constituency, same_refused, same_row}

-- two refusals at the same place in the order, whose cases both hold, are equal
same_refusal : (totals : VoteTotals) (f g : SheetRefusal) → place_in_order f ≡ place_in_order g → IsBeforeSearch f → IsCaseOf totals f → IsCaseOf totals g → f ≡ g
same_refusal totals (refusals.NoSeat c) (refusals.NoSeat d) e high a b = ap refusals.NoSeat (same_constituency totals c d a b)
same_refusal totals (refusals.NoUpperSeats u) (refusals.NoUpperSeats v) e high a b = ap refusals.NoUpperSeats (same_refused totals u v a b)
same_refusal totals (refusals.NoVotes c) (refusals.NoVotes d) e high a b = ap refusals.NoVotes (same_row totals c d a b)
same_refusal totals _ _ e high a b = first_of (cc, grind arith)

-- the first case that holds is unique
one_refusal : (totals : VoteTotals) (f g : SheetRefusal) → IsBeforeSearch f → IsFirstCase totals f → IsFirstCase totals g → f ≡ g
one_refusal totals f g high a b =
    elim (cases_order (place_in_order f) (place_in_order g)) [
      | inl same ↦ same_refusal totals f g same high a.holds b.holds
      | inr (inl less) ↦ absurd (b.first f less a.holds)
      | inr (inr more) ↦ absurd (a.first g more b.holds)
    ]

-- memory is refused
pub memory_answer : {Sheet : Type 0} (totals : VoteTotals) → IsAnswer {Sheet = Sheet} totals (Err Memory)
memory_answer {Sheet} totals = record { refused = tt; exactly = λ refusal high because. inr refl; tied = λ d g is. absurd (cc) }

-- a refusal whose case is the first that holds
pub refused_answer : {Sheet : Type 0} (totals : VoteTotals) (refusal : SheetRefusal) → IsFirstCase totals refusal →
    ((d g : ℕ) → refusal ≡ refusals.TiedLower d g → LeaveNoSeats totals) →
    IsAnswer {Sheet = Sheet} totals (Err (Refused refusal))
refused_answer {Sheet} totals refusal because none = record {
  refused = because;
  exactly = λ other high why. inl (ap Err (ap Refused (sym (one_refusal totals other refusal high why because))));
  tied = λ d g is. none d g (cc);
}

-- then there are no seats above the lists either
pub not_above : {T : Type 0} (Stands : T → Type 0) (totals : VoteTotals) (fault : SheetFault) → IfRefused fault IsBeforeLists →
    IsAnswer {Sheet = Distribution} totals (Err fault) → IsAboveLists Stands totals (Err fault)
not_above {T} Stands totals fault early is = record { given = tt; refused = is; early = early }

pub no_memory_above : {T : Type 0} (Stands : T → Type 0) (totals : VoteTotals) → IsAboveLists Stands totals (Err Memory)
no_memory_above {T} Stands totals = not_above Stands totals Memory tt (memory_answer totals)

-- the refusals of the parts above come before those of the lists
pub seats_early : (fault : SeatFault) → IfRefused (of_seats fault) IsBeforeLists
seats_early seat_faults.Memory = tt
seats_early _ = omega arith

pub upper_early : (fault : UpperFault) → IfRefused (of_upper fault) IsBeforeLists
upper_early upper_faults.Memory = tt
upper_early _ = omega arith

-- no sheet is made
pub not_made : (totals : VoteTotals) (fault : SheetFault) → IsAnswer {Sheet = Distribution} totals (Err fault) → IsMade totals (Err fault)
not_made totals fault is = record { sheet = tt; refused = is }

-- none of the cases before the search holds
pub given_answer : {Sheet : Type 0} (totals : VoteTotals) (sheet : Sheet) → NoneOf IsBeforeSearch totals → IsAnswer totals (Ok sheet)
given_answer totals sheet none = record {
  refused = tt;
  exactly = λ refusal high because. absurd (none refusal high because.holds);
  tied = λ d g is. absurd (cc);
}

-- no case comes before tied seats
pub none_first : (totals : VoteTotals) → NoneOf (λ other. place_in_order other < place_in_order refusals.TiedSeats) totals
none_first totals refusals.TiedSeats before holds = absurd (omega arith)
none_first totals _ before holds = absurd (omega arith)

-- the seats of the constituencies are not tied
pub none_untied : (totals : VoteTotals) (d : ℕ) → ¬ IsCaseOf totals refusals.TiedSeats →
    NoneOf (λ other. place_in_order other < place_in_order (refusals.NoSeat d)) totals
none_untied totals d untied refusals.TiedSeats before holds = untied holds
none_untied totals d untied _ before holds = absurd (omega arith)

-- each constituency has a seat
pub none_seated : (totals : VoteTotals) (seats : List ℕ) (u : UpperRefusal) → HaveSeats totals seats →
    NoneOf (λ other. place_in_order other < place_in_order (refusals.NoUpperSeats u)) totals
none_seated totals seats u have (refusals.NoSeat d) before holds = none_without totals seats have d holds
none_seated totals seats u have refusal before holds =
    none_untied totals 0 (not_tied totals seats have.in_proportion) refusal (omega arith) holds

-- the groups have seats
pub none_above_lists : (totals : VoteTotals) (seats : List ℕ) → HaveSeats totals seats → ((u : UpperRefusal) → ¬ IsRefusedAbove totals u) → NoneOf IsBeforeLists totals
none_above_lists totals seats have none (refusals.NoUpperSeats u) before holds = none u holds
none_above_lists totals seats have none (refusals.NoSeat d) before holds = none_without totals seats have d holds
none_above_lists totals seats have none refusal before holds =
    none_untied totals 0 (not_tied totals seats have.in_proportion) refusal (omega arith) holds

-- each constituency has votes
pub none_before_search : (totals : VoteTotals) → NoneOf IsBeforeLists totals → ((d : ℕ) → ¬ HasNoVotes totals d) → NoneOf IsBeforeSearch totals
none_before_search totals before rows (refusals.NoVotes d) lt holds = rows d holds
none_before_search totals before rows refusal lt holds = before refusal (omega arith) holds
