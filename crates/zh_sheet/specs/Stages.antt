-- The intermediate results on the way to a sheet.
use Rattle.std.specs.Prelude.{◌≡◌, ◌≤◌, Result, Err, IfOk, IfErr}
use Rattle.zh_districts.specs.declared.shares.SeatFault.{SeatFault}
use Rattle.zh_districts.specs.declared.shares.SeatFault.TheVariants as seat_faults
use Rattle.zh_districts.specs.Seats.{persons}
use Rattle.zh_divisors.specs.Shares.{HasDivisor}
use Rattle.zh_matrices.specs.Question.{AreSeatTotals, EachColumnHasVotes, Question, question}
use Rattle.zh_matrices.specs.SeatMatrix.{SeatMatrix}
use Rattle.zh_decided.specs.Ways.{AreBalanced}
use Rattle.zh_quorum.specs.Quorum.{AreParticipating}
use Rattle.zh_totals.specs.Totals.{AreTotals, VoteTotals}
use Rattle.zh_upper.specs.UpperSeats.{AreUpperSeats, of_participants, shares_of_participants}
use Rattle.zh_upper.specs.VoterNumbers.{AreVoterSums}
use Rattle.zh_upper.specs.declared.fault.UpperFault.{UpperFault}
use Rattle.zh_upper.specs.declared.fault.UpperFault.TheVariants as upper_faults
use Rattle.zh_sheet.specs.Distribution.{Distribution, HaveSeats, lower_question, seated_groups}
use Rattle.zh_sheet.specs.Refusals.{IfRefused, IsAnswer, IsBeforeLists, NoneOf}
use Rattle.zh_sheet.specs.declared.above.Above.{Above}
use Rattle.zh_sheet.specs.declared.fault.SheetFault.{SheetFault}
use Rattle.zh_sheet.specs.declared.fault.SheetFault.TheVariants.{Memory, Refused}
use Rattle.zh_sheet.specs.declared.fault.SheetRefusal.TheVariants as refusals
use Rattle.zh_sheet.specs.declared.list_question.ListQuestion.{ListQuestion}

-- the fault of a sheet for a fault of the seats of the constituencies and, below, of the upper seats
abbrev pub of_seats : SeatFault → SheetFault
of_seats seat_faults.Memory = Memory
of_seats seat_faults.Tied = Refused refusals.TiedSeats
of_seats (seat_faults.NoSeat d) = Refused (refusals.NoSeat d)

abbrev pub of_upper : UpperFault → SheetFault
of_upper upper_faults.Memory = Memory
of_upper (upper_faults.Refused refusal) = Refused (refusals.NoUpperSeats refusal)

-- `above` has the seats of the constituencies and of the groups for these totals, with what they follow from; no case before
-- those of the lists holds
pub record StandAbove (totals : VoteTotals) (above : Above) : Type 0 where
  pub constituencies : HaveSeats totals above.seats.seats
  pub seats_key : HasDivisor (persons totals.canton) above.seats
  pub participation : AreParticipating totals above.taking.items
  pub sums : AreVoterSums totals above.seats.seats above.voters.items
  pub groups : AreUpperSeats above.voters.items above.taking.items totals.canton.house above.upper.seats
  pub upper_key : HasDivisor (of_participants above.voters.items above.taking.items) (shares_of_participants above.upper above.taking.items)
  pub none : NoneOf IsBeforeLists totals

-- what there is before the lists get seats; or why there is no sheet, which is a case before those of the lists
pub record IsAboveLists {T : Type 0} (Stands : T → Type 0) (totals : VoteTotals) (result : Result T SheetFault) : Type 0 where
  pub given : IfOk result Stands
  pub refused : IfErr result (λ fault. IsAnswer {Sheet = Distribution} totals (Err fault))
  pub early : IfErr result (λ fault. IfRefused fault IsBeforeLists)

-- a question that the lower apportionment accepts: 1 to 32 lines each way, each with a total of 1 to 400 seats, and votes in
-- each column
pub record CanBeAsked (q : Question) : Type 0 where
  pub some_row : 1 ≤ q.rows
  pub few_rows : q.rows ≤ 32
  pub some_column : 1 ≤ q.columns
  pub few_columns : q.columns ≤ 32
  pub row_totals : AreSeatTotals q.rows q.row_totals
  pub column_totals : AreSeatTotals q.columns q.column_totals
  pub votes : EachColumnHasVotes q

-- the question that the code asks the lower apportionment
abbrev pub question_in : ListQuestion → Question
question_in x = question x.matrix x.above.seats.seats x.column_totals.items

-- the question is that of these totals, and the seats of the constituencies and of the groups follow from them
pub record IsAsked (totals : VoteTotals) (x : ListQuestion) : Type 0 where
  pub limits : AreTotals totals
  pub above : StandAbove totals x.above
  pub seated : x.seated.items ≡ seated_groups x.above.upper.seats
  pub same : question_in x ≡ lower_question totals x.above.seats.seats x.above.upper.seats
  pub can : CanBeAsked (question_in x)
  pub balanced : AreBalanced (question_in x)

-- the distribution of these seats of the constituencies and of the groups, with these lists
abbrev pub distribution_with : VoteTotals → Above → SeatMatrix → Distribution
distribution_with totals above lists = record {
  totals = totals;
  seats = above.seats;
  taking = above.taking.items;
  voters = above.voters.items;
  upper = above.upper;
  lower = lists;
}
