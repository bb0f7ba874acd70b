-- A tie in a step before the lists leaves no right seats.
use Rattle.std.proofs.Common.{◌≡◌}
use Rattle.zh_sheet.proofs.CallerLemmas.{same_seats, same_sums, same_taking}
use Rattle.zh_districts.specs.Seats.{persons}
use Rattle.zh_divisors.specs.Fit as fits
use Rattle.zh_divisors.proofs.CallerLemmas.{no_strict_fit}
use Rattle.zh_totals.specs.Totals.{VoteTotals}
use Rattle.zh_upper.specs.UpperSeats.{of_participants}
use Rattle.zh_upper.specs.VoterNumbers.{AreVoterSums}
use Rattle.zh_upper.specs.declared.fault.UpperRefusal.TheVariants.{Tied}
use Rattle.zh_sheet.specs.Refusals.{IsRefusedAbove, LeaveNoSeats}

-- The seats of the constituencies are tied.
pub tied_seats : (totals : VoteTotals) → fits.IsTied (persons totals.canton) totals.canton.house → LeaveNoSeats totals
tied_seats totals tied a divisors seats strict = no_strict_fit (persons totals.canton) totals.canton.house a.seats tied a.constituencies.in_proportion

-- The seats of the groups are tied.
pub tied_above : (totals : VoteTotals) → IsRefusedAbove totals Tied → LeaveNoSeats totals
tied_above totals tied a divisors below strict =
    let seats : tied.seats ≡ a.seats = same_seats totals a.seats tied.seats a.constituencies.in_proportion tied.constituencies.in_proportion in
    let taking : tied.taking ≡ a.taking = same_taking totals tied.taking a.taking tied.participation a.participation in
    let sums : AreVoterSums totals a.seats tied.voters = rw (← seats) tied.sums in
    let voters : tied.voters ≡ a.voters = same_sums totals a.seats tied.voters a.voters sums a.sums in
    let here : fits.IsTied (of_participants a.voters a.taking) totals.canton.house = rw (← voters, ← taking) tied.reason.holds in
    no_strict_fit (of_participants a.voters a.taking) totals.canton.house (of_participants a.upper a.taking) here a.groups.in_proportion
