-- Votes have only one sheet.
use Rattle.std.proofs.Common.{◌≡◌, ℕ, Bool, List, length, sym, ap, ◌∙◌, inl, inr, arith}
use Rattle.std.proofs.lemmas.Bool.{cases_order}
use Rattle.zh_districts.specs.Seats.{persons}
use Rattle.zh_divisors.specs.Shares.{Apportionment, HasDivisor}
use Rattle.zh_divisors.specs.Worth.{IsLeastLast, IsMostNext}
use Rattle.zh_lower.proofs.CallerLemmas.{only_shown}
use Rattle.zh_lower.specs.Shown.{IsShown}
use Rattle.zh_upper.specs.UpperSeats.{of_participants, shares_of_participants}
use Rattle.zh_sheet.specs.Distribution.{Distribution, IsDistribution, Targets, lower_question, question_of}
use Rattle.zh_sheet.proofs.SheetLemmas.{targets}
use Rattle.zh_sheet.proofs.TargetLemmas.{same_targets}

same_last : (weights seats : List ℕ) (i j : ℕ) → IsLeastLast weights seats (length weights) i → IsLeastLast weights seats (length weights) j → j ≡ i
same_last weights seats i j I J = elim (cases_order j i) [
  | inl same ↦ same
  | inr (inl less) ↦ absurd (omega (arith, I.first j less J.seated, J.least i I.within I.seated))
  | inr (inr more) ↦ absurd (omega (arith, J.first i more I.seated, I.least j J.within J.seated))
]

same_next : (weights seats : List ℕ) (i j : ℕ) → IsMostNext weights seats (length weights) i → IsMostNext weights seats (length weights) j → j ≡ i
same_next weights seats i j I J = elim (cases_order j i) [
  | inl same ↦ same
  | inr (inl less) ↦ absurd (omega (arith, I.first j less, J.most i I.within))
  | inr (inr more) ↦ absurd (omega (arith, J.first i more, I.most j J.within))
]

-- the divisor is the same if the seats are
same_divisor : (weights : List ℕ) (a b : Apportionment) → b.seats ≡ a.seats → HasDivisor weights a → HasDivisor weights b → b ≡ a
same_divisor weights a b seats A B =
    let last : B.last ≡ A.last = same_last weights a.seats A.last B.last A.last_is (rw (← seats) B.last_is) in
    let next : B.next ≡ A.next = same_next weights a.seats A.next B.next A.next_is (rw (← seats) B.next_is) in
    let num : b.num ≡ a.num = B.num_is ∙ rw (last, next) (sym A.num_is) in
    let den : b.den ≡ a.den = B.den_is ∙ rw (last, next, seats) (sym A.den_is) in
    ap (λ s. record { seats = s; num = b.num; den = b.den }) seats
    ∙ ap (λ n. record { seats = a.seats; num = n; den = b.den }) num
    ∙ ap (λ n. record { seats = a.seats; num = a.num; den = n }) den

-- distributions with equal parts are equal
pub same_parts : (x y : Distribution) → y.totals ≡ x.totals → y.seats ≡ x.seats → y.taking ≡ x.taking → y.voters ≡ x.voters →
    y.upper ≡ x.upper → y.lower ≡ x.lower → y ≡ x
same_parts x y totals seats taking voters upper lower =
    ap (λ t. record { totals = t; seats = y.seats; taking = y.taking; voters = y.voters; upper = y.upper; lower = y.lower }) totals
    ∙ ap (λ s. record { totals = x.totals; seats = s; taking = y.taking; voters = y.voters; upper = y.upper; lower = y.lower }) seats
    ∙ ap (λ t. record { totals = x.totals; seats = x.seats; taking = t; voters = y.voters; upper = y.upper; lower = y.lower }) taking
    ∙ ap (λ v. record { totals = x.totals; seats = x.seats; taking = x.taking; voters = v; upper = y.upper; lower = y.lower }) voters
    ∙ ap (λ u. record { totals = x.totals; seats = x.seats; taking = x.taking; voters = x.voters; upper = u; lower = y.lower }) upper
    ∙ ap (λ l. record { totals = x.totals; seats = x.seats; taking = x.taking; voters = x.voters; upper = x.upper; lower = l }) lower

same_upper_shares : (taking : List Bool) (a b : Apportionment) → b.seats ≡ a.seats →
    shares_of_participants b taking ≡ shares_of_participants a taking → b ≡ a
same_upper_shares taking a b seats shares =
    ap (λ s. record { seats = s; num = b.num; den = b.den }) seats
    ∙ ap (λ x. record { seats = a.seats; num = x.num; den = x.den }) shares

pub same_asked : (x y : Distribution) → y.totals ≡ x.totals → y.seats ≡ x.seats → y.upper ≡ x.upper → question_of y ≡ question_of x
same_asked x y totals seats upper =
    ap (λ t. lower_question t y.seats.seats y.upper.seats) totals
    ∙ ap (λ s. lower_question x.totals s.seats y.upper.seats) seats
    ∙ ap (λ u. lower_question x.totals x.seats.seats u.seats) upper

-- the parts above the lists are equal
pub record AreSameAbove (x y : Distribution) : Type 0 where
  pub seats : y.seats ≡ x.seats
  pub taking : y.taking ≡ x.taking
  pub voters : y.voters ≡ x.voters
  pub upper : y.upper ≡ x.upper

-- they are equal for two distributions of the same votes
pub same_above : (x y : Distribution) → IsDistribution x → IsDistribution y → y.totals ≡ x.totals → AreSameAbove x y
same_above x y X Y totals =
    let other : Targets x.totals = record {
      seats = y.seats.seats;
      taking = y.taking;
      voters = y.voters;
      upper = y.upper.seats;
      constituencies = rw (← totals) Y.seats;
      participation = rw (← totals) Y.participation;
      sums = rw (← totals) Y.voters;
      groups = rw (← totals) Y.upper;
    } in
    let same = same_targets x.totals (targets x X) other in
    let seats : y.seats ≡ x.seats
    = same_divisor (persons x.totals.canton) x.seats y.seats same.seats X.seats_key (rw (← totals) Y.seats_key) in
    let shares : shares_of_participants y.upper x.taking ≡ shares_of_participants x.upper x.taking
    = same_divisor (of_participants x.voters x.taking) (shares_of_participants x.upper x.taking) (shares_of_participants y.upper x.taking)
    (ap (λ u. of_participants u x.taking) same.upper) X.upper_key (rw (← same.voters, ← same.taking) Y.upper_key) in
    let upper : y.upper ≡ x.upper = same_upper_shares x.taking x.upper y.upper same.upper shares in
    record { seats = seats; taking = same.taking; voters = same.voters; upper = upper }

-- two distributions of the same votes are equal if both have the divisors that a sheet shows
pub same_distribution : (x y : Distribution) → IsDistribution x → IsShown (question_of x) x.lower.divisors →
    IsDistribution y → IsShown (question_of y) y.lower.divisors → y.totals ≡ x.totals → y ≡ x
same_distribution x y X x_reached Y y_reached totals =
    let same : AreSameAbove x y = same_above x y X Y totals in
    let question : question_of y ≡ question_of x = same_asked x y totals same.seats same.upper in
    let lower : y.lower ≡ x.lower
    = only_shown (question_of x) x.lower y.lower x_reached X.lower (rw (← question) y_reached) (rw (← question) Y.lower) in
    same_parts x y totals same.seats same.taking same.voters same.upper lower
