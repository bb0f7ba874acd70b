-- Why an exhausted search found no seats, in the numbers of the set-up.
use Rattle.std.proofs.Common.{ℕ, Bool, List, sym, subst}
use Rattle.zh_matrices.specs.NearlyTied.{IsClear}
use Rattle.zh_matrices.specs.Question.{Question}
use Rattle.zh_matrices.specs.SeatMatrix.{IsWeak}
use Rattle.zh_matrices.proofs.CallerLemmas.{only_seats}
use Rattle.zh_decided.specs.Impossible.{HasTooFewSeats}
use Rattle.zh_decided.proofs.CallerLemmas.{no_divisors, no_clear}
use Rattle.zh_decided.specs.Boxes.{NoneInRange}
use Rattle.zh_totals.specs.Totals.{VoteTotals}
use Rattle.zh_sheet.specs.Distribution.{Targets, seated_groups}
use Rattle.zh_sheet.specs.ListSeats.{SeatsOfLists}
use Rattle.zh_sheet.specs.Reasons.{AreOnlySeats, AreSeatsAmong, IsReason, IsReasonAmong, IsTieAmong, asked_below}
use Rattle.zh_sheet.specs.declared.reason.ExhaustedReason.{ExhaustedReason}
use Rattle.zh_sheet.specs.declared.reason.ExhaustedReason.TheVariants as reasons
use Rattle.zh_sheet.proofs.TargetLemmas.{same_question}

-- if one question has too few seats, so has each question that these totals lead to
impossible : (t : VoteTotals) (a : Targets t) (rows : List Bool) → HasTooFewSeats (asked_below t a) rows → IsReason t (reasons.Impossible rows)
impossible t a rows few = record {
  targets = a;
  too_few = few;
  none = λ others divisors seats weak.
      no_divisors (asked_below t a) rows few divisors seats
      (subst (λ (q : Question). IsWeak q divisors seats) (same_question t a others) weak);
}

-- a near tie excludes clear seats for each question that these totals lead to
nearly_tied : (t : VoteTotals) (a : Targets t) (d g : ℕ) → IsTieAmong (asked_below t a) (seated_groups a.upper) d g →
    IsReason t (reasons.NearlyTied d g)
nearly_tied t a d g tie = record {
  targets = a;
  tied = tie;
  none_clear = λ others divisors seats clear.
      no_clear (asked_below t a) d tie.column tie.tied divisors seats
      (subst (λ (q : Question). IsClear q divisors seats) (same_question t a others) clear);
}

-- seats that follow strictly exclude others for each question that these totals lead to
only : (t : VoteTotals) (a : Targets t) (x : SeatsOfLists) → AreSeatsAmong (asked_below t a) (seated_groups a.upper) x → AreOnlySeats t x
only t a x follow = record {
  targets = a;
  follow = follow;
  only = λ others divisors seats weak.
      only_seats (asked_below t a) follow.divisors divisors x.seats seats follow.strict
      (subst (λ (q : Question). IsWeak q divisors seats) (same_question t a others) weak);
}

-- a reason for the question is a reason for the totals that lead to it
pub reason : (t : VoteTotals) (a : Targets t) (x : ExhaustedReason) → IsReasonAmong (asked_below t a) (seated_groups a.upper) x → IsReason t x
reason t a (reasons.Impossible rows) is = impossible t a rows is
reason t a (reasons.NearlyTied d g) is = nearly_tied t a d g is
reason t a (reasons.Beyond x) is = record {
  seats = only t a x is.0;
  none = λ others. subst (λ (q : Question). (seats : List ℕ) → NoneInRange q seats) (sym (same_question t a others)) is.1;
}
