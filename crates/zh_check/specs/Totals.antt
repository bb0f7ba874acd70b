-- Whether the seats of the lists of each constituency and of each group add up to its seats.
use Rattle.std.specs.Prelude.{◌≡◌, ◌≢◌, ℕ, ◌+◌, ◌*◌, ◌<◌, ◌≤◌, ◌⊎◌, Bool, Option, MatchOption, List, length, slice_index}
use Rattle.zh_districts.specs.Canton.{Canton}
use Rattle.zh_districts.specs.Seats.{AreSeats, IsFirstWithout, persons}
use Rattle.zh_divisors.specs.Fit.{IsTied}
use Rattle.zh_divisors.specs.Shares.{Apportionment}
use Rattle.zh_divisors.specs.Sums.{sum_to}
use Rattle.zh_quorum.specs.Quorum.{AreParticipating}
use Rattle.zh_totals.specs.Totals.{AreTotals, VoteTotals}
use Rattle.zh_upper.specs.UpperSeats.{AreUpperSeats}
use Rattle.zh_upper.specs.VoterNumbers.{AreVoterSums}
use Rattle.zh_upper.specs.declared.fault.UpperRefusal.{UpperRefusal}
use Rattle.zh_sheet.specs.Distribution.{HaveSeats, Targets}
use Rattle.zh_sheet.specs.Refusals.{IsRefusedAbove}
use Rattle.zh_check.specs.Lines.{after_lines, first_line}
use Rattle.zh_check.specs.Reading.{lines_above, seats_read, totals_read}
use Rattle.zh_check.specs.declared.checked.OffTotal.{OffTotal}
use Rattle.zh_check.specs.declared.reasons.Unmet.{Unmet}

-- the sum of the seats of the lists of a constituency, and of a group; both are counted from 0
abbrev pub constituency_sum : Canton → List ℕ → ℕ → ℕ
constituency_sum canton text d = sum_to (length canton.groups) (λ g. slice_index (seats_read canton text) (d * length canton.groups + g))

abbrev pub group_sum : Canton → List ℕ → ℕ → ℕ
group_sum canton text g = sum_to (length canton.constituencies) (λ d. slice_index (seats_read canton text) (d * length canton.groups + g))

-- the sum at this place is not the total, and at each earlier place it is
pub record IsFirstUnmet (sum : ℕ → ℕ) (totals : List ℕ) (place : ℕ) : Type 0 where
  pub there : place < length totals
  pub unmet : sum place ≢ slice_index totals place
  pub before : (k : ℕ) → k < place → sum k ≡ slice_index totals k

-- the report of a total that is not met: its line, the sum of the seats, and the total
pub record IsSaid (text : List ℕ) (before sum its_total : ℕ) (off : OffTotal) : Type 0 where
  pub line : off.line ≡ before + 1
  pub found : off.found.items ≡ first_line (after_lines before text)
  pub seats : off.seats ≡ sum
  pub total : off.total ≡ its_total

-- each sum equals its total
abbrev pub AreMet : (ℕ → ℕ) → List ℕ → Type 0
AreMet sum totals = (k : ℕ) → k < length totals → sum k ≡ slice_index totals k

-- the first sum that does not equal its total; the lines of the totals come after the first `before` lines
pub record IsOffAmong (sum : ℕ → ℕ) (totals text : List ℕ) (before : ℕ) (off : OffTotal) : Type 0 where
  pub place : ℕ
  pub first : IsFirstUnmet sum totals place
  pub said : IsSaid text (before + place) (sum place) (slice_index totals place) off

abbrev pub FindsOffAmong : (ℕ → ℕ) → List ℕ → List ℕ → ℕ → Option OffTotal → Type 0
FindsOffAmong sum totals text before found = MatchOption found (AreMet sum totals) (IsOffAmong sum totals text before)

-- this is the first constituency whose lists do not add up to its seats, which follow from the persons
pub record IsOffConstituency (canton : Canton) (text : List ℕ) (off : OffTotal) : Type 0 where
  pub totals : List ℕ
  pub follow : HaveSeats (totals_read canton text) totals
  pub first : IsOffAmong (constituency_sum canton text) totals text (1 + lines_above canton) off

-- those of each constituency do, and this is the first group whose lists do not add up to its seats, which follow from the votes
pub record IsOffGroup (canton : Canton) (text : List ℕ) (off : OffTotal) : Type 0 where
  pub targets : Targets (totals_read canton text)
  pub constituencies : AreMet (constituency_sum canton text) targets.seats
  pub first : IsOffAmong (group_sum canton text) targets.upper text (1 + lines_above canton + length canton.constituencies) off

abbrev pub IsOffTotal : Canton → List ℕ → OffTotal → Type 0
IsOffTotal canton text off = IsOffConstituency canton text off ⊎ IsOffGroup canton text off

-- the sum of `terms` seats: the first is at index `first`, and each of the others is `step` after the one before
abbrev pub spaced_sum : List ℕ → ℕ → ℕ → ℕ → ℕ
spaced_sum seats first terms step = sum_to terms (λ k. slice_index seats (first + k * step))

-- the first sum that does not equal its total
pub record IsUnmet (sum : ℕ → ℕ) (totals : List ℕ) (unmet : Unmet) : Type 0 where
  pub first : IsFirstUnmet sum totals unmet.place
  pub seats : unmet.seats ≡ sum unmet.place

abbrev pub FindsUnmet : (ℕ → ℕ) → List ℕ → Option Unmet → Type 0
FindsUnmet sum totals found = MatchOption found (AreMet sum totals) (IsUnmet sum totals)

-- the seats of the constituencies, each with at least one
pub record AreConstituencySeats (canton : Canton) (seats : List ℕ) : Type 0 where
  pub in_proportion : AreSeats canton seats
  pub each : (k : ℕ) → k < length seats → 1 ≤ slice_index seats k

-- a constituency gets no seat
pub record SomeGetsNone (canton : Canton) : Type 0 where
  pub seats : List ℕ
  pub in_proportion : AreSeats canton seats
  pub d : ℕ
  pub first : IsFirstWithout seats d

-- the constituencies get no seats: they are tied, or one of them gets no seat
abbrev pub HaveNoSeats : Canton → Type 0
HaveNoSeats canton = IsTied (persons canton) canton.house ⊎ SomeGetsNone canton

abbrev pub FindsConstituencySeats : Canton → Option Apportionment → Type 0
FindsConstituencySeats canton found = MatchOption found (HaveNoSeats canton) (λ shares. AreConstituencySeats canton shares.seats)

-- the seats of the groups, with what they follow from apart from the seats of the constituencies
pub record AreGroupSeats (totals : VoteTotals) (seats upper : List ℕ) : Type 0 where
  pub taking : List Bool
  pub voters : List ℕ
  pub participation : AreParticipating totals taking
  pub sums : AreVoterSums totals seats voters
  pub groups : AreUpperSeats voters taking totals.canton.house upper

-- the groups get no seats; the refusal says why
pub record HaveNoGroupSeats (totals : VoteTotals) : Type 0 where
  pub refusal : UpperRefusal
  pub refused : IsRefusedAbove totals refusal

abbrev pub FindsGroupSeats : VoteTotals → List ℕ → Option (List ℕ) → Type 0
FindsGroupSeats totals seats found = MatchOption found (HaveNoGroupSeats totals) (AreGroupSeats totals seats)

-- the seats of the lists of each group add up to its seats
pub record MeetsGroups (canton : Canton) (text seats : List ℕ) : Type 0 where
  pub upper : List ℕ
  pub follow : AreGroupSeats (totals_read canton text) seats upper
  pub met : AreMet (group_sum canton text) upper

-- the seats of the lists of each constituency add up to its seats, and so do those of each group if its seats follow from the votes
pub record MeetsTotals (canton : Canton) (text : List ℕ) : Type 0 where
  pub seats : List ℕ
  pub follow : AreConstituencySeats canton seats
  pub met : AreMet (constituency_sum canton text) seats
  pub groups : ¬ AreTotals (totals_read canton text) ⊎ HaveNoGroupSeats (totals_read canton text) ⊎ MeetsGroups canton text seats

-- every total that follows is met
abbrev pub IsNoneOff : Canton → List ℕ → Type 0
IsNoneOff canton text = HaveNoSeats canton ⊎ MeetsTotals canton text

abbrev pub FindsOffTotal : Canton → List ℕ → Option OffTotal → Type 0
FindsOffTotal canton text found = MatchOption found (IsNoneOff canton text) (IsOffTotal canton text)
