-- A distribution with given lists: if it may be published, no refusal before the lists holds, and it is the only one.
use Rattle.std.proofs.Common.{◌≡◌, ◌≢◌, Option, Ok, Err, Some, None, refl, inl, inr, ap, sym, ◌∙◌, subst, arith}
use Rattle.std.specs.Prelude.{◌↔◌, Bool, IsTrue, false}
use Rattle.zh_matrices.specs.Divisors.{millionths}
use Rattle.zh_matrices.proofs.CallerLemmas.{few-in-cells, only_seats, weakened}
use Rattle.zh_sheet.specs.Made.{IsMade}
use Rattle.zh_matrices.specs.Question.{AreSeatTotals, Question}
use Rattle.zh_matrices.specs.SeatMatrix.{IsStrict, SeatMatrix}
use Rattle.zh_totals.specs.Totals as sums
use Rattle.zh_totals.specs.Hidden.{NoneHidden}
use Rattle.zh_totals.specs.Totals.{VoteTotals}
use Rattle.zh_sheet.specs.Distribution.{Distribution, HaveSeats, IsDistribution, Targets, lower_question, question_of}
use Rattle.zh_sheet.specs.Given.{DoFit, DoFollow, HaveSameSeats, IsGiven, IsPublished}
use Rattle.zh_sheet.specs.Refusals.{IfRefused, IsAnswer, IsBeforeLists, IsCaseOf, NoneOf}
use Rattle.zh_sheet.specs.Stages.{StandAbove, distribution_with}
use Rattle.zh_sheet.specs.declared.above.Above.{Above}
use Rattle.zh_sheet.specs.declared.fault.SheetFault.{SheetFault}
use Rattle.zh_sheet.specs.declared.fault.SheetFault.TheVariants.{Memory, Refused}
use Rattle.zh_sheet.specs.declared.fault.SheetRefusal.TheVariants as refusals
use Rattle.zh_sheet.proofs.OneSheetLemmas.{AreSameAbove, same_above, same_asked, same_parts}
use Rattle.zh_sheet.proofs.RefusalLemmas.{none_above_lists, none_seated}
use Rattle.zh_sheet.proofs.TargetLemmas.{same_question}

-- the question of a distribution is that of its targets
asked_above : (totals : VoteTotals) (a : Targets totals) (x : Distribution) → IsDistribution x → x.totals ≡ totals →
    question_of x ≡ lower_question totals a.seats a.upper
asked_above totals a x is same =
    let b : Targets totals = record {
      seats = x.seats.seats;
      taking = x.taking;
      voters = x.voters;
      upper = x.upper.seats;
      constituencies = rw (← same) is.seats;
      participation = rw (← same) is.participation;
      sums = rw (← same) is.voters;
      groups = rw (← same) is.upper;
    } in
    ap (λ t. lower_question t x.seats.seats x.upper.seats) same ∙ same_question totals a b

-- the lists of a distribution follow
follow_above : (totals : VoteTotals) (a : Targets totals) (lists : SeatMatrix) (x : Distribution) → IsDistribution x → x.totals ≡ totals → x.lower ≡ lists →
    DoFollow (lower_question totals a.seats a.upper) lists
follow_above totals a lists x is same lower =
    let own : DoFollow (question_of x) x.lower = record { strict = is.lower; limits = is.limits } in
    subst (λ l. DoFollow (lower_question totals a.seats a.upper) l) lower (subst (λ q. DoFollow q x.lower) (asked_above totals a x is same) own)

-- if the lists do not follow, there is no such distribution
pub none_given : (totals : VoteTotals) (a : Targets totals) (lists : SeatMatrix) → ¬ DoFollow (lower_question totals a.seats a.upper) lists →
    IsGiven totals lists None
none_given totals a lists not = record {
  votes = tt;
  seats = tt;
  meets = tt;
  every = λ x is same lower. absurd (not (follow_above totals a lists x is.distribution same lower));
}

-- there is none either if votes are hidden, or if a part above the lists is refused for another reason than memory
pub none_shown : (totals : VoteTotals) (lists : SeatMatrix) → ¬ NoneHidden totals → IsGiven totals lists None
none_shown totals lists hidden = record {
  votes = tt;
  seats = tt;
  meets = tt;
  every = λ x is same lower. absurd (hidden (subst (λ t. NoneHidden t) same is.votes));
}

pub none_above : (totals : VoteTotals) (lists : SeatMatrix) (fault : SheetFault) → IsAnswer {Sheet = Distribution} totals (Err fault) →
    IfRefused fault IsBeforeLists → fault ≢ Memory → IsGiven totals lists None
none_above totals lists Memory answer early other = absurd (other refl)
none_above totals lists (Refused refusal) answer early other = record {
  votes = tt;
  seats = tt;
  meets = tt;
  every = λ x is same lower. absurd (is.none refusal early (subst (λ t. IsCaseOf t refusal) (sym same) answer.refused.holds));
}

-- the distribution of the seats above the lists, and of the lists
pub meets_with : (totals : VoteTotals) (above : Above) (lists : SeatMatrix) → sums.AreTotals totals → StandAbove totals above →
    DoFollow (lower_question totals above.seats.seats above.upper.seats) lists →
    lists.divisors ≡ millionths lists.divisors.of_rows lists.divisors.of_columns → IsDistribution (distribution_with totals above lists)
meets_with totals above lists limits stand follow in_millionths = record {
  totals = limits;
  seats = stand.constituencies;
  seats_key = stand.seats_key;
  participation = stand.participation;
  voters = stand.sums;
  upper = stand.groups;
  upper_key = stand.upper_key;
  lower = follow.strict;
  divisors = in_millionths;
  limits = follow.limits;
}

-- such a distribution is the only one
pub one_given : (totals : VoteTotals) (lists : SeatMatrix) (x : Distribution) → IsDistribution x → NoneHidden totals → NoneOf IsBeforeLists totals →
    x.totals ≡ totals → x.lower ≡ lists → IsGiven totals lists (Some x)
one_given totals lists x is hidden none same lower = record {
  votes = same;
  seats = lower;
  meets = record {
    distribution = is;
    votes = subst (λ t. NoneHidden t) (sym same) hidden;
    none = subst (λ t. NoneOf IsBeforeLists t) (sym same) none;
  };
  every = λ y Y votes seats.
      let totals_same : y.totals ≡ x.totals = votes ∙ sym same in
      let above : AreSameAbove x y = same_above x y is Y.distribution totals_same in
      ap Some (sym (same_parts x y totals_same above.seats above.taking above.voters above.upper (seats ∙ sym lower)));
}

-- lists that follow have the sizes that the test of rounding requires
pub few_given : (q : Question) (lists : SeatMatrix) → AreSeatTotals q.rows q.row_totals → DoFollow q lists → DoFit q.rows q.columns lists
few_given q lists totals follow = record {
  rows = follow.limits.rows;
  columns = follow.limits.columns;
  one_each = follow.strict.one_each;
  few = few-in-cells q lists.seats totals follow.strict.one_each follow.strict.rows_add_up;
}

-- a sheet that was made and shows all votes may be published
pub made_open : (totals : VoteTotals) (x : Distribution) → IsMade totals (Ok x) → NoneHidden totals → IsPublished x
made_open totals x made hidden =
    let same : x.totals ≡ totals = made.sheet.votes in
    let have : HaveSeats totals x.seats.seats = subst (λ t. HaveSeats t x.seats.seats) same made.sheet.meets.seats in
    let none : NoneOf IsBeforeLists totals
    = none_above_lists totals x.seats.seats have (λ u holds.
    elim (made.refused.exactly (refusals.NoUpperSeats u) (omega arith) (record { holds = holds; first = none_seated totals x.seats.seats u have })) [
      | inl refused ↦ absurd (cc)
      | inr refused ↦ absurd (cc)
    ]) in
    record {
      distribution = made.sheet.meets;
      votes = subst (λ t. NoneHidden t) (sym same) hidden;
      none = subst (λ t. NoneOf IsBeforeLists t) (sym same) none;
    }

-- its own seats and divisors give it again
pub made_given : (totals : VoteTotals) (x : Distribution) (found : Option Distribution) → IsMade totals (Ok x) → NoneHidden totals →
    IsGiven totals x.lower found → found ≡ Some x
made_given totals x found made hidden given = given.every x (made_open totals x made hidden) made.sheet.votes refl

-- two distributions of the same votes have the same seats, whatever their divisors
pub one_result : (x y : Distribution) → IsDistribution x → IsDistribution y → y.totals ≡ x.totals → HaveSameSeats x y
one_result x y X Y totals =
    let above : AreSameAbove x y = same_above x y X Y totals in
    let question : question_of y ≡ question_of x = same_asked x y totals above.seats above.upper in
    record {
      constituencies = above.seats;
      groups = above.upper;
      lists = only_seats (question_of x) x.lower.divisors y.lower.divisors x.lower.seats y.lower.seats X.lower
          (weakened (question_of x) y.lower.divisors y.lower.seats (subst (λ q. IsStrict q y.lower.divisors y.lower.seats) question Y.lower));
    }

-- lists that fit follow if and only if the strict test passes
pub follow_if : (q : Question) (lists : SeatMatrix) (passes : Bool) → DoFit q.rows q.columns lists →
    (IsTrue passes ↔ IsStrict q lists.divisors lists.seats) → IsTrue passes ↔ DoFollow q lists
follow_if q lists passes fit is = (
  λ yes. record { strict = is.0 yes; limits = record { rows = fit.rows; columns = fit.columns } },
  λ follow. is.1 follow.strict,
)

-- lists that do not fit do not follow
pub none_fit : (q : Question) (lists : SeatMatrix) → AreSeatTotals q.rows q.row_totals → ¬ DoFit q.rows q.columns lists → IsTrue false ↔ DoFollow q lists
none_fit q lists totals not = (λ yes. absurd (cc), λ follow. absurd (not (few_given q lists totals follow)))
