-- The question that totals lead to, and the answer that its outcome leads to.
use Rattle.std.proofs.Common.{◌≡◌, ◌-◌, List, ℕ, Ok, Err, Some, ap, arith, get_or, length, refl, sym, subst, ◌∙◌}
use Rattle.zh_matrices.specs.Divisors.{millionths}
use Rattle.zh_matrices.specs.Lots.{AreRanges}
use Rattle.zh_matrices.specs.Question.{Question}
use Rattle.zh_matrices.specs.SeatMatrix.{SeatMatrix}
use Rattle.zh_matrices.proofs.CallerLemmas.{only_seats}
use Rattle.zh_decided.specs.Ways.{AreBalanced}
use Rattle.zh_lower.specs.Seating.{LowerOutcome}
use Rattle.zh_lower.specs.declared.lower.LowerFault.{LowerFault}
use Rattle.zh_totals.specs.Hidden.{NoneHidden}
use Rattle.zh_totals.specs.Totals.{AreTotals, VoteTotals}
use Rattle.zh_sheet.specs.Given.{DoFollow, IsGiven}
use Rattle.zh_lower.specs.Reasons.{HandsOver}
use Rattle.zh_lower.specs.declared.fallback.Decided.{Decided}
use Rattle.zh_lower.specs.declared.lower.LowerFault.TheVariants as faults
use Rattle.zh_lower.specs.declared.lower.NoLower.TheVariants as reasons
use Rattle.zh_lower.specs.declared.tie.Tie.{Tie}
use Rattle.zh_sheet.specs.Reasons.{HaveNoSheet, IsReasonAmong, asked_below}
use Rattle.zh_sheet.specs.declared.fault.SheetFault.TheVariants.{Memory, Refused}
use Rattle.zh_sheet.specs.declared.fault.SheetRefusal.TheVariants as refusals
use Rattle.zh_sheet.specs.declared.reason.ExhaustedReason.{ExhaustedReason}
use Rattle.zh_sheet.specs.declared.reason.NoSheet.TheVariants.{Exhausted, Fault, Tied}
use Rattle.zh_sheet.specs.Distribution.{lower_question, seated_groups}
use Rattle.zh_sheet.specs.Made.{IsMade}
use Rattle.zh_sheet.specs.Stages.{CanBeAsked, IsAsked, StandAbove, distribution_with, question_in}
use Rattle.zh_sheet.specs.declared.above.Above.{Above}
use Rattle.zh_sheet.specs.declared.list_question.ListQuestion.{ListQuestion}
use Rattle.zh_sheet.proofs.AskedLemmas.{can_be_asked}
use Rattle.zh_sheet.proofs.BalanceLemmas.{balanced}
use Rattle.zh_sheet.proofs.DistributionLemmas.{lower_given, lower_refused, of_lower, targets_above}
use Rattle.zh_sheet.proofs.GivenLemmas.{meets_with, one_given}
use Rattle.zh_sheet.proofs.ReasonLemmas.{reason}
use Rattle.zh_sheet.proofs.RefusalLemmas.{memory_answer, not_made}

-- the lower apportionment accepts the question
pub above_can : (t : VoteTotals) (above : Above) → AreTotals t → StandAbove t above →
    CanBeAsked (lower_question t above.seats.seats above.upper.seats)
above_can t above limits stand = can_be_asked t (targets_above t above stand) limits

pub is_asked : (t : VoteTotals) (x : ListQuestion) → AreTotals t → StandAbove t x.above → x.seated.items ≡ seated_groups x.above.upper.seats →
    question_in x ≡ lower_question t x.above.seats.seats x.above.upper.seats → IsAsked t x
is_asked t x limits above seated same =
    let targets = targets_above t x.above above in
    let can = can_be_asked t targets limits in
    record {
      limits = limits;
      above = above;
      seated = seated;
      same = same;
      can = subst (λ (q : Question). CanBeAsked q) (sym same) can;
      balanced = subst (λ (q : Question). AreBalanced q) (sym same) (balanced t targets (sym can.row_totals.one_each));
    }

outcome_of : (t : VoteTotals) (x : ListQuestion) → IsAsked t x → (P : Question → Type 0) → P (question_in x) →
    P (lower_question t x.above.seats.seats x.above.upper.seats)
outcome_of t x asked P is = subst P asked.same is

-- the lists get seats
pub made_of : (t : VoteTotals) (x : ListQuestion) (lower : SeatMatrix) → IsAsked t x → LowerOutcome (question_in x) (Ok lower) →
    IsMade t (Ok (distribution_with t x.above lower))
made_of t x lower asked found =
    let q : Question = lower_question t x.above.seats.seats x.above.upper.seats in
    let outcome : LowerOutcome q (Ok lower) = outcome_of t x asked (λ (q : Question). LowerOutcome q (Ok lower)) found in
    record {
      sheet = record {
        votes = refl;
        meets = meets_with t x.above lower asked.limits asked.above
            (record { strict = outcome.seats.strict; limits = outcome.seats.limits }) outcome.seats.in_millionths;
        shown = outcome.seats.shown;
        one_answer = λ divisors seats weak. only_seats q lower.divisors divisors lower.seats seats outcome.seats.strict weak;
      };
      refused = lower_given t (targets_above t x.above asked.above) asked.above.none lower (distribution_with t x.above lower) outcome;
    }

-- the seats of the lists are refused
pub none_of : (t : VoteTotals) (x : ListQuestion) (fault : LowerFault) → IsAsked t x → LowerOutcome (question_in x) (Err fault) →
    IsMade t (Err (of_lower fault x.seated.items))
none_of t x fault asked found =
    let targets = targets_above t x.above asked.above in
    let outcome = outcome_of t x asked (λ (q : Question). LowerOutcome q (Err fault)) found in
    subst (λ (seated : List ℕ). IsMade t (Err (of_lower fault seated))) (sym asked.seated)
    (not_made t (of_lower fault (seated_groups x.above.upper.seats)) (lower_refused t targets asked.above.none fault outcome))

-- the columns are the seated groups
pub columns_are : (t : VoteTotals) (x : ListQuestion) → IsAsked t x → x.matrix.columns ≡ length x.seated.items
columns_are t x asked = ap (λ (q : Question). q.columns) asked.same ∙ sym (ap length asked.seated)

pub ranges_of : (t : VoteTotals) (x : ListQuestion) (least most : List ℕ) → IsAsked t x → AreRanges (question_in x) least most →
    AreRanges (lower_question t x.above.seats.seats x.above.upper.seats) least most
ranges_of t x least most asked are = outcome_of t x asked (λ (q : Question). AreRanges q least most) are

-- why there is no sheet, by the reason why the lists get no seats
pub no_memory : (t : VoteTotals) → HaveNoSheet t (Fault Memory)
no_memory t = record { made = not_made t Memory (memory_answer t); known = tt }

pub no_votes : (t : VoteTotals) (x : ListQuestion) (d : ℕ) → IsAsked t x → HandsOver (question_in x) (Err (reasons.NoVotes d)) →
    HaveNoSheet t (Fault (Refused (refusals.NoVotes d)))
no_votes t x d asked handed = record { made = none_of t x (faults.NoVotes d) asked handed.outcome; known = omega arith }

pub tied : (t : VoteTotals) (x : ListQuestion) (tie : Tie) (g : ℕ) → IsAsked t x → HandsOver (question_in x) (Err (reasons.Tied tie)) →
    g ≡ get_or x.seated.items (tie.column - 1) 0 → HaveNoSheet t (Tied tie.row g (record { asked = x; tie = tie }))
tied t x tie g asked handed group = record {
  made = rw group (none_of t x (faults.Tied tie.row tie.column) asked handed.outcome);
  known = record { asked = asked; tie = handed.reason };
}

pub exhausted : (t : VoteTotals) (x : ListQuestion) (decided : Decided) (why : ExhaustedReason) → IsAsked t x →
    HandsOver (question_in x) (Err (reasons.Exhausted decided)) → IsReasonAmong (question_in x) x.seated.items why → HaveNoSheet t (Exhausted why)
exhausted t x decided why asked handed among =
    let targets = targets_above t x.above asked.above in
    let below = outcome_of t x asked (λ (q : Question). IsReasonAmong q x.seated.items why) among in
    record {
      made = none_of t x faults.Exhausted asked handed.outcome;
      known = reason t targets why
          (subst (λ (groups : List ℕ). IsReasonAmong (asked_below t targets) groups why) asked.seated below);
    }

-- the sheet with lists that are given and follow
pub given_of : (t : VoteTotals) (x : ListQuestion) (lists : SeatMatrix) → IsAsked t x → NoneHidden t → DoFollow (question_in x) lists →
    lists.divisors ≡ millionths lists.divisors.of_rows lists.divisors.of_columns → IsGiven t lists (Some (distribution_with t x.above lists))
given_of t x lists asked hidden follow in_millionths =
    let own = outcome_of t x asked (λ (q : Question). DoFollow q lists) follow in
    one_given t lists (distribution_with t x.above lists) (meets_with t x.above lists asked.limits asked.above own in_millionths)
    hidden asked.above.none refl refl
