-- The distribution of the seats of a house (GPR sections 88 and 102 to 104), with all that it follows from.
use Rattle.std.specs.Prelude.{◌≡◌, ℕ, ◌-◌, ◌<◌, ◌≤◌, Bool, nat_lt, List, length, map, filter, flat_map, slice_index}
use Rattle.std.specs.List.{range_with_len}
use Rattle.zh_districts.specs.Seats.{AreSeats, persons}
use Rattle.zh_divisors.specs.Shares.{Apportionment, HasDivisor}
use Rattle.zh_matrices.specs.Divisors.{AreWithinLimits, millionths}
use Rattle.zh_matrices.specs.Question.{Question}
use Rattle.zh_matrices.specs.SeatMatrix.{IsStrict, SeatMatrix}
use Rattle.zh_quorum.specs.Quorum.{AreParticipating}
use Rattle.zh_totals.specs.Totals.{AreTotals, VoteTotals, votes_in}
use Rattle.zh_upper.specs.UpperSeats.{AreUpperSeats, of_participants, shares_of_participants}
use Rattle.zh_upper.specs.VoterNumbers.{AreVoterSums}

-- votes; the seats of the constituencies with their key; for each group whether it takes part, its voter sum and its
-- upper seats with their key; and the seats of the seated groups in the constituencies, with the divisors
pub record Distribution : Type 0 where
  pub totals : VoteTotals
  pub seats : Apportionment
  pub taking : List Bool
  pub voters : List ℕ
  pub upper : Apportionment
  pub lower : SeatMatrix

-- the seats of the constituencies are in proportion to their persons, and each constituency has at least one
pub record HaveSeats (totals : VoteTotals) (seats : List ℕ) : Type 0 where
  pub in_proportion : AreSeats totals.canton seats
  pub each : (k : ℕ) → k < length seats → 1 ≤ slice_index seats k

-- the seats of the constituencies, and of the groups in the whole canton; the seats of the lists are to add up to both
pub record Targets (totals : VoteTotals) : Type 0 where
  pub seats : List ℕ
  pub taking : List Bool
  pub voters : List ℕ
  pub upper : List ℕ
  pub constituencies : HaveSeats totals seats
  pub participation : AreParticipating totals taking
  pub sums : AreVoterSums totals seats voters
  pub groups : AreUpperSeats voters taking totals.canton.house upper

-- the numbers of the groups with upper seats, the seated groups
abbrev pub seated_groups : List ℕ → List ℕ
seated_groups upper = filter (λ g. nat_lt 0 (slice_index upper (g - 1))) (range_with_len 1 (length upper))

-- the question for the lower apportionment: constituencies in rows, seated groups in columns
abbrev pub lower_question : VoteTotals → List ℕ → List ℕ → Question
lower_question totals seats upper = record {
  rows = length totals.canton.constituencies;
  columns = length (seated_groups upper);
  votes = flat_map (λ d. map (votes_in totals d) (seated_groups upper)) (range_with_len 1 (length totals.canton.constituencies));
  row_totals = seats;
  column_totals = map (λ g. slice_index upper (g - 1)) (seated_groups upper);
}

-- the question of a distribution for the lower apportionment
abbrev pub question_of : Distribution → Question
question_of x = lower_question x.totals x.seats.seats x.upper.seats

-- each part follows from the parts before it, and the seats of the lists follow from divisors in millionths, which are within
-- the limits of a sheet, with no quotient on a half
pub record IsDistribution (x : Distribution) : Type 0 where
  pub totals : AreTotals x.totals
  pub seats : HaveSeats x.totals x.seats.seats
  pub seats_key : HasDivisor (persons x.totals.canton) x.seats
  pub participation : AreParticipating x.totals x.taking
  pub voters : AreVoterSums x.totals x.seats.seats x.voters
  pub upper : AreUpperSeats x.voters x.taking x.totals.canton.house x.upper.seats
  pub upper_key : HasDivisor (of_participants x.voters x.taking) (shares_of_participants x.upper x.taking)
  pub lower : IsStrict (question_of x) x.lower.divisors x.lower.seats
  pub divisors : x.lower.divisors ≡ millionths x.lower.divisors.of_rows x.lower.divisors.of_columns
  pub limits : AreWithinLimits (question_of x) x.lower.divisors.of_rows x.lower.divisors.of_columns
