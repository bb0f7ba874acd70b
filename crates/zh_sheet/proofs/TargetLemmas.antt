-- The targets of a sheet are unique: the seats of the constituencies, which groups take part, the voter sums, and the seats of
-- the groups.
use Rattle.std.proofs.Common.{◌≡◌, ℕ, suc, ◌+◌, ◌-◌, ◌≤◌, ◌↔◌, Bool, true, false, Some, List, [], ◌∷◌, length, get_or, slice_get, IsTrue, refl, inl, inr, ap, sym, ◌∙◌, subst, arith}
use Rattle.std.proofs.lemmas.Bool.{cases_order}
use Rattle.std.proofs.lemmas.List.{ext_get_or}
use Rattle.zh_districts.specs.Seats.{AreSeats, IsFirstWithout, persons}
use Rattle.zh_divisors.specs.Fit as fits
use Rattle.zh_divisors.proofs.CallerLemmas.{no_strict_fit, only_fit, weak_from_strict}
use Rattle.zh_divisors.specs.Fit.{IsStrictFit}
use Rattle.zh_matrices.specs.Question.{IsFirstWithoutVotes, Question}
use Rattle.zh_quorum.specs.Quorum.{AreParticipating}
use Rattle.zh_totals.specs.Totals.{VoteTotals}
use Rattle.zh_upper.specs.UpperSeats.{AreUpperSeats, of_participants}
use Rattle.zh_upper.specs.Refusals.{HaveNoUpperSeats}
use Rattle.zh_upper.specs.VoterNumbers.{AreVoterSums}
use Rattle.zh_upper.specs.declared.fault.UpperRefusal.{UpperRefusal}
use Rattle.zh_upper.proofs.CallerLemmas.{one_upper_refusal}
use Rattle.zh_sheet.specs.Distribution.{HaveSeats, Targets, lower_question}
use Rattle.zh_sheet.specs.Refusals.{GetsNoSeat, HasNoVotes, IsRefusedAbove}

same_fit : (weights : List ℕ) (house : ℕ) (seats others : List ℕ) → IsStrictFit weights house seats → IsStrictFit weights house others → others ≡ seats
same_fit weights house seats others one other = only_fit weights house seats others one (weak_from_strict weights house others other)

pub same_seats : (totals : VoteTotals) (seats others : List ℕ) → AreSeats totals.canton seats → AreSeats totals.canton others → others ≡ seats
same_seats totals seats others one other = same_fit (persons totals.canton) totals.canton.house seats others one other

-- the first of something is unique
first_without : (seats : List ℕ) (c d : ℕ) → IsFirstWithout seats c → IsFirstWithout seats d → c ≡ d
first_without seats c d one other =
    elim (cases_order c d) [
      | inl same ↦ same
      | inr (inl less) ↦ absurd (omega (arith, other.before (c - 1) (omega (arith, one.from_one)), one.none))
      | inr (inr more) ↦ absurd (omega (arith, one.before (d - 1) (omega (arith, other.from_one)), other.none))
    ]

pub same_constituency : (totals : VoteTotals) (c d : ℕ) → GetsNoSeat totals c → GetsNoSeat totals d → c ≡ d
same_constituency totals c d one other =
    let e : other.seats ≡ one.seats = same_seats totals one.seats other.seats one.in_proportion other.in_proportion in
    let first : IsFirstWithout one.seats d = rw (← e) other.first in
    first_without one.seats c d one.first first

-- each constituency has a seat
pub none_without : (totals : VoteTotals) (seats : List ℕ) → HaveSeats totals seats → (d : ℕ) → ¬ GetsNoSeat totals d
none_without totals seats have d without =
    let e : without.seats ≡ seats = same_seats totals seats without.seats have.in_proportion without.in_proportion in
    let first : IsFirstWithout seats d = rw (← e) without.first in
    absurd (omega (arith, have.each (d - 1) (omega (arith, first.from_one, first.there)), first.none))

pub not_tied : (totals : VoteTotals) (seats : List ℕ) → AreSeats totals.canton seats → ¬ fits.IsTied (persons totals.canton) totals.canton.house
not_tied totals seats fit tied = no_strict_fit (persons totals.canton) totals.canton.house seats tied fit

-- two tests with the same meaning have the same result
same_test : (a b : Bool) (P : Type 0) → IsTrue a ↔ P → IsTrue b ↔ P → a ≡ b
same_test true true P one other = refl
same_test false false P one other = refl
same_test true false P one other = sym (other.1 (one.0 refl))
same_test false true P one other = one.1 (other.0 refl)

pub same_taking : (totals : VoteTotals) (a b : List Bool) → AreParticipating totals a → AreParticipating totals b → a ≡ b
same_taking totals a b one other =
    ext_get_or false a b (one.one_each ∙ sym other.one_each) (λ k within.
    let there : k + 1 ≤ length totals.canton.groups = omega (arith, within, one.one_each) in
    let place : k + 1 - 1 ≡ k = omega arith in
    let first = rw place at (one.each (k + 1) (omega arith) there) in
    let second = rw place at (other.each (k + 1) (omega arith) there) in
    same_test (get_or a k false) (get_or b k false) _ first second
    )

pub same_sums : (totals : VoteTotals) (seats a b : List ℕ) → AreVoterSums totals seats a → AreVoterSums totals seats b → a ≡ b
same_sums totals seats a b one other =
    ext_get_or 0 a b (one.one_each ∙ sym other.one_each) (λ k within.
    let there : k + 1 ≤ length totals.canton.groups = omega (arith, within, one.one_each) in
    let place : k + 1 - 1 ≡ k = omega arith in
    let first = rw place at (one.each (k + 1) (omega arith) there) in
    let second = rw place at (other.each (k + 1) (omega arith) there) in
    first ∙ sym second
    )

-- seats are equal if they are equal for those that take part, and 0 for the others
same_spread : (taking : List Bool) (xs ys : List ℕ) → length xs ≡ length taking → length ys ≡ length taking →
    of_participants xs taking ≡ of_participants ys taking →
    ((g : ℕ) → slice_get taking g ≡ Some false → get_or xs g 0 ≡ 0) → ((g : ℕ) → slice_get taking g ≡ Some false → get_or ys g 0 ≡ 0) → xs ≡ ys
same_spread [] [] [] lx ly e nx ny = refl
same_spread [] (x ∷ xs) ys lx ly e nx ny = absurd (omega (arith, lx))
same_spread [] [] (y ∷ ys) lx ly e nx ny = absurd (omega (arith, ly))
same_spread (t ∷ taking) [] ys lx ly e nx ny = absurd (omega (arith, lx))
same_spread (t ∷ taking) (x ∷ xs) [] lx ly e nx ny = absurd (omega (arith, ly))
same_spread (true ∷ taking) (x ∷ xs) (y ∷ ys) lx ly e nx ny =
    let head : x ≡ y = cc in
    let tail : of_participants xs taking ≡ of_participants ys taking = cc in
    let rest = same_spread taking xs ys (omega (arith, lx)) (omega (arith, ly)) tail (λ g. nx (suc g)) (λ g. ny (suc g)) in
    cc
same_spread (false ∷ taking) (x ∷ xs) (y ∷ ys) lx ly e nx ny =
    let head : x ≡ y = nx 0 refl ∙ sym (ny 0 refl) in
    let rest = same_spread taking xs ys (omega (arith, lx)) (omega (arith, ly)) e (λ g. nx (suc g)) (λ g. ny (suc g)) in
    cc

same_upper : (voters : List ℕ) (taking : List Bool) (house : ℕ) (a b : List ℕ) → length voters ≡ length taking →
    AreUpperSeats voters taking house a → AreUpperSeats voters taking house b → b ≡ a
same_upper voters taking house a b long one other =
    let e = same_fit (of_participants voters taking) house (of_participants a taking) (of_participants b taking) one.in_proportion other.in_proportion in
    same_spread taking b a (other.one_each ∙ long) (one.one_each ∙ long) e other.others one.others

-- the parts of two targets are equal
pub record AreSame (totals : VoteTotals) (a b : Targets totals) : Type 0 where
  pub seats : b.seats ≡ a.seats
  pub taking : b.taking ≡ a.taking
  pub voters : b.voters ≡ a.voters
  pub upper : b.upper ≡ a.upper

pub one_each : (totals : VoteTotals) (a : Targets totals) → length a.voters ≡ length a.taking
one_each totals a = a.sums.one_each ∙ sym a.participation.one_each

pub same_targets : (totals : VoteTotals) (a b : Targets totals) → AreSame totals a b
same_targets totals a b =
    let seats : b.seats ≡ a.seats = same_seats totals a.seats b.seats a.constituencies.in_proportion b.constituencies.in_proportion in
    let taking : b.taking ≡ a.taking = same_taking totals b.taking a.taking b.participation a.participation in
    let sums : AreVoterSums totals a.seats b.voters = rw (← seats) b.sums in
    let voters : b.voters ≡ a.voters = same_sums totals a.seats b.voters a.voters sums a.sums in
    let groups : AreUpperSeats a.voters a.taking totals.canton.house b.upper = rw (← voters, ← taking) b.groups in
    record { seats = seats; taking = taking; voters = voters; upper = same_upper a.voters a.taking totals.canton.house a.upper b.upper (one_each totals a) a.groups groups }

pub same_question : (totals : VoteTotals) (a b : Targets totals) → lower_question totals b.seats b.upper ≡ lower_question totals a.seats a.upper
same_question totals a b =
    let same = same_targets totals a b in
    ap (λ seats. lower_question totals seats b.upper) same.seats ∙ ap (λ upper. lower_question totals a.seats upper) same.upper

first_row : (q : Question) (c d : ℕ) → IsFirstWithoutVotes q c → IsFirstWithoutVotes q d → c ≡ d
first_row q c d one other =
    elim (cases_order c d) [
      | inl same ↦ same
      | inr (inl less) ↦ absurd (one.none (other.before (c - 1) (omega (arith, one.from_1))))
      | inr (inr more) ↦ absurd (other.none (one.before (d - 1) (omega (arith, other.from_1))))
    ]

pub same_row : (totals : VoteTotals) (c d : ℕ) → HasNoVotes totals c → HasNoVotes totals d → c ≡ d
same_row totals c d one other =
    let e = same_question totals one.targets other.targets in
    let first : IsFirstWithoutVotes (lower_question totals one.targets.seats one.targets.upper) d = subst (λ q. IsFirstWithoutVotes q d) e other.first in
    first_row (lower_question totals one.targets.seats one.targets.upper) c d one.first first

-- the seats of the constituencies, which groups take part, and the voter sums
pub record IsBasis (t : VoteTotals) (seats : List ℕ) (taking : List Bool) (voters : List ℕ) : Type 0 where
  pub constituencies : HaveSeats t seats
  pub participation : AreParticipating t taking
  pub sums : AreVoterSums t seats voters

-- the reason why the groups get no seats holds for them
pub reason_above : (totals : VoteTotals) (seats : List ℕ) (taking : List Bool) (voters : List ℕ) → IsBasis totals seats taking voters →
    (refusal : UpperRefusal) → IsRefusedAbove totals refusal → HaveNoUpperSeats voters taking totals.canton.house refusal
reason_above totals seats taking voters is refusal above =
    let same : above.seats ≡ seats = same_seats totals seats above.seats is.constituencies.in_proportion above.constituencies.in_proportion in
    let part : above.taking ≡ taking = same_taking totals above.taking taking above.participation is.participation in
    let own : AreVoterSums totals seats above.voters = rw (← same) above.sums in
    let sums : above.voters ≡ voters = same_sums totals seats above.voters voters own is.sums in
    rw (← sums, ← part) above.reason

-- that reason is unique
pub same_refused : (totals : VoteTotals) (one other : UpperRefusal) → IsRefusedAbove totals one → IsRefusedAbove totals other → one ≡ other
same_refused totals one other a b =
    let is : IsBasis totals a.seats a.taking a.voters = record { constituencies = a.constituencies; participation = a.participation; sums = a.sums } in
    one_upper_refusal a.voters a.taking totals.canton.house one other a.reason (reason_above totals a.seats a.taking a.voters is other b)
