-- The answer that each part below leads to.
use Rattle.std.proofs.Common.{ℕ, ◌-◌, Bool, List, get_or, Ok, Err, refl, inl, inr, subst}
use Rattle.std.specs.Prelude.{IsErrOf}
use Rattle.zh_districts.specs.Seats.{AreSeats, IsFirstWithout, persons}
use Rattle.zh_districts.specs.declared.shares.SeatFault.{SeatFault}
use Rattle.zh_districts.specs.declared.shares.SeatFault.TheVariants as seat_faults
use Rattle.zh_divisors.specs.Fit as fits
use Rattle.zh_divisors.specs.Shares.{Apportionment}
use Rattle.zh_matrices.specs.Question.{IsFirstWithoutVotes}
use Rattle.zh_matrices.specs.SeatMatrix.{IsStrict, SeatMatrix}
use Rattle.zh_lower.specs.Seating.{LowerOutcome}
use Rattle.zh_lower.specs.declared.lower.LowerFault.{LowerFault}
use Rattle.zh_lower.specs.declared.lower.LowerFault.TheVariants as lower_faults
use Rattle.zh_matrices.proofs.CallerLemmas.{no_seats}
use Rattle.zh_totals.specs.Totals.{VoteTotals}
use Rattle.zh_upper.specs.Refusals.{HaveNoUpperSeats, IsRefusedExactly}
use Rattle.zh_upper.specs.declared.fault.UpperFault.{UpperFault}
use Rattle.zh_upper.specs.declared.fault.UpperFault.TheVariants as upper_faults
use Rattle.zh_sheet.specs.Distribution.{Targets, lower_question, seated_groups}
use Rattle.zh_sheet.specs.Refusals.{IsAnswer, IsBeforeLists, IsBeforeSearch, NoneOf}
use Rattle.zh_sheet.specs.Stages.{StandAbove, of_seats, of_upper}
use Rattle.zh_sheet.specs.declared.above.Above.{Above}
use Rattle.zh_sheet.specs.declared.fault.SheetFault.{SheetFault}
use Rattle.zh_sheet.specs.declared.fault.SheetFault.TheVariants.{Memory, Refused}
use Rattle.zh_sheet.specs.declared.fault.SheetRefusal.TheVariants as refusals
use Rattle.zh_sheet.proofs.RefusalLemmas.{given_answer, memory_answer, none_above_lists, none_before_search, none_first, none_seated, none_untied, refused_answer}
use Rattle.zh_sheet.proofs.TargetLemmas.{IsBasis, not_tied, reason_above, same_question}

-- the seats of the constituencies are refused
pub seats_refused : {Sheet : Type 0} (t : VoteTotals) (e : SeatFault) →
    (IsErrOf {T = Apportionment} (Err e) seat_faults.Tied → fits.IsTied (persons t.canton) t.canton.house) →
    ((d : ℕ) → IsErrOf {T = Apportionment} (Err e) (seat_faults.NoSeat d) → (seats : List ℕ) × AreSeats t.canton seats × IsFirstWithout seats d) →
    IsAnswer {Sheet = Sheet} t (Err (of_seats e))
seats_refused t seat_faults.Memory tied none = memory_answer t
seats_refused t seat_faults.Tied tied none =
    refused_answer t refusals.TiedSeats (record { holds = tied refl; first = none_first t }) (λ d g e. absurd (cc))
seats_refused t (seat_faults.NoSeat d) tied none =
    let found = none d refl in
    refused_answer t (refusals.NoSeat d)
    (record { holds = record { seats = found.0; in_proportion = found.1; first = found.2 }; first = none_untied t d (not_tied t found.0 found.1) })
    (λ d g e. absurd (cc))

-- the seats of the groups are refused
pub upper_refused : {Sheet : Type 0} (t : VoteTotals) (seats : List ℕ) (taking : List Bool) (voters : List ℕ) → IsBasis t seats taking voters → (e : UpperFault) →
    IsRefusedExactly {Seats = Apportionment} (HaveNoUpperSeats voters taking t.canton.house) (Err e) → IsAnswer {Sheet = Sheet} t (Err (of_upper e))
upper_refused t seats taking voters is upper_faults.Memory refused = memory_answer t
upper_refused t seats taking voters is (upper_faults.Refused refusal) refused =
    refused_answer t (refusals.NoUpperSeats refusal)
    (record {
      holds = record {
        seats = seats;
        constituencies = is.constituencies;
        taking = taking;
        participation = is.participation;
        voters = voters;
        sums = is.sums;
        reason = refused.only refusal refl;
      };
      first = none_seated t seats refusal is.constituencies;
    })
    (λ d g e. absurd (cc))

-- the groups get seats
pub upper_given : (t : VoteTotals) (seats : List ℕ) (taking : List Bool) (voters : List ℕ) → IsBasis t seats taking voters → (u : Apportionment) →
    IsRefusedExactly (HaveNoUpperSeats voters taking t.canton.house) (Ok u) → NoneOf IsBeforeLists t
upper_given t seats taking voters is u refused =
    none_above_lists t seats is.constituencies (λ refusal above.
    elim (refused.always refusal (reason_above t seats taking voters is refusal above)) [ inl e ↦ absurd (cc) | inr e ↦ absurd (cc) ]
    )

-- the seats of the constituencies and of the groups, as targets
abbrev pub targets_above : (t : VoteTotals) (above : Above) → StandAbove t above → Targets t
targets_above t above is = record {
  seats = above.seats.seats;
  taking = above.taking.items;
  voters = above.voters.items;
  upper = above.upper.seats;
  constituencies = is.constituencies;
  participation = is.participation;
  sums = is.sums;
  groups = is.groups;
}

-- each constituency has votes
none_of_rows : (t : VoteTotals) (a : Targets t) → NoneOf IsBeforeLists t → ((d : ℕ) → ¬ IsFirstWithoutVotes (lower_question t a.seats a.upper) d) →
    NoneOf IsBeforeSearch t
none_of_rows t a before rows =
    none_before_search t before (λ d without. rows d (subst (λ q. IsFirstWithoutVotes q d) (same_question t a without.targets) without.first))

-- the fault of a sheet for a fault of the lists; the columns, counted from 1, are the seated groups
abbrev pub of_lower : LowerFault → List ℕ → SheetFault
of_lower lower_faults.Memory seated = Memory
of_lower (lower_faults.NoVotes d) seated = Refused (refusals.NoVotes d)
of_lower (lower_faults.Tied d column) seated = Refused (refusals.TiedLower d (get_or seated (column - 1) 0))
of_lower lower_faults.Exhausted seated = Refused refusals.Exhausted

-- the seats of the lists are refused
pub lower_refused : {Sheet : Type 0} (t : VoteTotals) (a : Targets t) → NoneOf IsBeforeLists t → (e : LowerFault) →
    LowerOutcome (lower_question t a.seats a.upper) (Err e) → IsAnswer {Sheet = Sheet} t (Err (of_lower e (seated_groups a.upper)))
lower_refused t a before lower_faults.Memory found = memory_answer t
lower_refused t a before (lower_faults.NoVotes d) found =
    refused_answer t (refusals.NoVotes d)
    (record { holds = record { targets = a; first = found.fault }; first = before })
    (λ d g e. absurd (cc))
lower_refused t a before (lower_faults.Tied d column) found =
    let tied = found.fault in
    let first = tied.tied.first in
    let ways = tied.tied.ways in
    let rows = none_of_rows t a before (λ c first. elim (found.no_votes c first) [ inl e ↦ absurd (cc) | inr e ↦ absurd (cc) ]) in
    refused_answer t (refusals.TiedLower d (get_or (seated_groups a.upper) (column - 1) 0))
    (record {
      holds = record { targets = a; column = column; column_from_one = first.column_from_1; column_there = first.column; of_group = refl; tied = tied };
      first = rows;
    })
    (λ d g e b divisors seats strict.
    no_seats (lower_question t a.seats a.upper) tied.divisors tied.tied.seats tied.tied.others ways.one_way ways.other_way ways.differ divisors seats
    (subst (λ q. IsStrict q divisors seats) (same_question t a b) strict))
lower_refused t a before lower_faults.Exhausted found =
    let rows = none_of_rows t a before (λ c first. elim (found.no_votes c first) [ inl e ↦ absurd (cc) | inr e ↦ absurd (cc) ]) in
    refused_answer t refusals.Exhausted
    (record { holds = record { targets = a; none = found.fault.none_before; none_given = found.fault.none_given }; first = rows })
    (λ d g e. absurd (cc))

-- the lists get seats
pub lower_given : {Sheet : Type 0} (t : VoteTotals) (a : Targets t) → NoneOf IsBeforeLists t → (lower : SeatMatrix) (sheet : Sheet) →
    LowerOutcome (lower_question t a.seats a.upper) (Ok lower) → IsAnswer t (Ok sheet)
lower_given t a before lower sheet found =
    given_answer t sheet (none_of_rows t a before (λ c first. elim (found.no_votes c first) [ inl e ↦ absurd (cc) | inr e ↦ absurd (cc) ]))
