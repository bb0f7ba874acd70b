-- The question that the seats of the constituencies and of the groups leave for the lower apportionment.
use Rattle.std.proofs.Common.{◌≡◌, ℕ, zero, suc, ◌+◌, ◌-◌, ◌<◌, ◌≤◌, ◌⊎◌, Bool, true, false, cond, Some, All, List, [], ◌∷◌, length, get_or, map, filter, slice_get, inl, inr, refl, ap, sym, ◌∙◌, arith}
use Rattle.std.specs.Prelude.{nat_lt}
use Rattle.std.specs.List.{range_with_len}
use Rattle.std.proofs.lemmas.Bool.{cases_lt}
use Rattle.std.proofs.lemmas.List.{length-map}
use Rattle.std.proofs.lemmas.List.Elements.{All-nil, All-cons, All-head, All-tail, All-map, All-from_get_or}
use Rattle.std.proofs.lemmas.List.FromFn.{length-range_with_len}
use Rattle.std.proofs.lemmas.List.Sums.{get_or-le-sum_by, sum_by-le}
use Rattle.std.proofs.lemmas.Option.{slice_get-get_or}
use Rattle.zh_divisors.proofs.CallerLemmas.{term-le-sum_to}
use Rattle.zh_districts.specs.Canton.{IsCanton}
use Rattle.zh_matrices.specs.Question.{AreSeatTotals, EachColumnHasVotes, column_votes}
use Rattle.zh_quorum.specs.Quorum.{TakesPart}
use Rattle.zh_quorum.proofs.CallerLemmas.{HasVotes, has_votes}
use Rattle.zh_totals.specs.Totals as totals
use Rattle.zh_totals.specs.Totals.{VoteTotals, votes_in}
use Rattle.zh_upper.specs.UpperSeats.{of_participants}
use Rattle.zh_sheet.specs.Distribution.{HaveSeats, Targets, lower_question, seated_groups}
use Rattle.zh_sheet.specs.Stages.{CanBeAsked}
use Rattle.zh_sheet.proofs.SeatedLemmas.{IsSeated, at_seated_votes, none_seated, seated_are}

-- what holds for all in the list of participants holds for each group that takes part
pub participant_at : (P : ℕ → Type 0) (xs : List ℕ) (taking : List Bool) (k : ℕ) → length xs ≡ length taking →
    All P (of_participants xs taking) → k < length xs → get_or taking k false ≡ true → P (get_or xs k 0)
participant_at P [] taking k long each lt takes = absurd (omega (arith, lt))
participant_at P (x ∷ xs) [] k long each lt takes = absurd (omega (arith, long))
participant_at P (x ∷ xs) (true ∷ taking) zero long each lt takes = All-head P x (of_participants xs taking) each
participant_at P (x ∷ xs) (false ∷ taking) zero long each lt takes = absurd (cc)
participant_at P (x ∷ xs) (true ∷ taking) (suc k) long each lt takes =
    participant_at P xs taking k (omega (arith, long)) (All-tail P x (of_participants xs taking) each) (omega (arith, lt)) takes
participant_at P (x ∷ xs) (false ∷ taking) (suc k) long each lt takes =
    participant_at P xs taking k (omega (arith, long)) each (omega (arith, lt)) takes

-- the converse
pub All-participants : (P : ℕ → Type 0) (xs : List ℕ) (taking : List Bool) → length xs ≡ length taking →
    ((k : ℕ) → k < length xs → get_or taking k false ≡ true → P (get_or xs k 0)) → All P (of_participants xs taking)
All-participants P [] [] long each = All-nil P
All-participants P [] (t ∷ taking) long each = absurd (omega (arith, long))
All-participants P (x ∷ xs) [] long each = absurd (omega (arith, long))
All-participants P (x ∷ xs) (true ∷ taking) long each =
    All-cons P x (of_participants xs taking) (each 0 (omega arith) refl)
    (All-participants P xs taking (omega (arith, long)) (λ k lt takes. each (suc k) (omega (arith, lt)) takes))
All-participants P (x ∷ xs) (false ∷ taking) long each =
    All-participants P xs taking (omega (arith, long)) (λ k lt takes. each (suc k) (omega (arith, lt)) takes)

length-filter-le : (p : ℕ → Bool) (xs : List ℕ) → length (filter p xs) ≤ length xs
length-filter-le p [] = omega arith
length-filter-le p (x ∷ xs) = elim (p x) as (λ b. length (cond b (x ∷ filter p xs) (filter p xs)) ≤ length (x ∷ xs)) [
  | true ↦ omega (arith, length-filter-le p xs)
  | false ↦ omega (arith, length-filter-le p xs)
]

-- sizes of targets
pub length-upper : (t : VoteTotals) (a : Targets t) → length a.upper ≡ length t.canton.groups
length-upper t a = a.groups.one_each ∙ a.sums.one_each

pub length-taking : (t : VoteTotals) (a : Targets t) → length a.upper ≡ length a.taking
length-taking t a = length-upper t a ∙ sym a.participation.one_each

test_cases : (b : Bool) → (b ≡ true) ⊎ (b ≡ false)
test_cases true = inl refl
test_cases false = inr refl

-- a group with seats takes part
pub seated_takes : (t : VoteTotals) (a : Targets t) (k : ℕ) → k < length a.upper → 1 ≤ get_or a.upper k 0 → get_or a.taking k false ≡ true
seated_takes t a k lt some =
    elim (test_cases (get_or a.taking k false)) [
      | inl holds ↦ holds
      | inr fails ↦
          let read : slice_get a.taking k ≡ Some false
          = slice_get-get_or a.taking k false (omega (arith, lt, length-taking t a)) ∙ ap Some fails in
          absurd (omega (arith, some, a.groups.others k read))
    ]

-- a group has at most as many seats as the house
upper_within : (t : VoteTotals) (a : Targets t) (k : ℕ) → k < length a.upper → get_or a.upper k 0 ≤ t.canton.house
upper_within t a k lt =
    elim (cases_lt 0 (get_or a.upper k 0)) [
      | inl some ↦
          let each : All (λ s. s ≤ t.canton.house) (of_participants a.upper a.taking)
          = λ j d jt. omega (arith, get_or-le-sum_by (λ s. s) (of_participants a.upper a.taking) j d jt, a.groups.in_proportion.add_up) in
          participant_at (λ s. s ≤ t.canton.house) a.upper a.taking k (length-taking t a) each lt (seated_takes t a k lt (omega (arith, some)))
      | inr none ↦ omega (arith, none)
    ]

-- some group has a seat
pub some_seated : (t : VoteTotals) (a : Targets t) → 1 ≤ t.canton.house → 1 ≤ length (seated_groups a.upper)
some_seated t a house =
    elim (cases_lt 0 (length (seated_groups a.upper))) [
      | inl some ↦ omega (arith, some)
      | inr none ↦
          let zeros = none_seated a.upper (omega (arith, none)) in
          let each : All (λ s. s ≤ 0) (of_participants a.upper a.taking)
          = All-participants (λ s. s ≤ 0) a.upper a.taking (length-taking t a) (λ k lt takes. omega (arith, zeros k lt)) in
          absurd (omega (arith, sum_by-le (λ s. s) 0 (of_participants a.upper a.taking) each, a.groups.in_proportion.add_up, house))
    ]

pub few_seated : (t : VoteTotals) (a : Targets t) → length t.canton.groups ≤ 32 → length (seated_groups a.upper) ≤ 32
few_seated t a few =
    omega (
      arith,
      few,
      length-upper t a,
      length-range_with_len 1 (length a.upper),
      length-filter-le (λ g. nat_lt 0 (get_or a.upper (g - 1) 0)) (range_with_len 1 (length a.upper)),
    )

-- a seated group has votes in some constituency
column_has_votes : (t : VoteTotals) (a : Targets t) → EachColumnHasVotes (lower_question t a.seats a.upper)
column_has_votes t a k lt =
    let is : IsSeated a.upper (get_or (seated_groups a.upper) k 0) = seated_are a.upper k 0 lt in
    let g : ℕ = get_or (seated_groups a.upper) k 0 in
    let there : g ≤ length t.canton.groups = omega (arith, is.there, length-upper t a) in
    let takes : TakesPart t g = (a.participation.each g is.from_one there).0 (seated_takes t a (g - 1) (omega (arith, is.from_one, is.there)) is.seated) in
    let has : HasVotes t g = has_votes t g takes in
    let row : has.d - 1 < length t.canton.constituencies = omega (arith, has.from_one, has.there) in
    let number : has.d - 1 + 1 ≡ has.d = omega (arith, has.from_one) in
    let votes : column_votes (lower_question t a.seats a.upper) k (has.d - 1) ≡ votes_in t has.d g
    = at_seated_votes t a.upper (has.d - 1) k row lt ∙ ap (λ d. votes_in t d g) number in
    omega (arith, votes, has.some_votes, term-le-sum_to (length t.canton.constituencies) (column_votes (lower_question t a.seats a.upper) k) (has.d - 1) row)

row_totals : (t : VoteTotals) (a : Targets t) → IsCanton t.canton → AreSeatTotals (length t.canton.constituencies) a.seats
row_totals t a canton = record {
  one_each = a.constituencies.in_proportion.one_each ∙ length-map t.canton.constituencies (λ x. x.persons);
  from_1 = All-from_get_or (λ s. 1 ≤ s) a.seats 0 a.constituencies.each;
  at_most_400 = λ k d lt. omega (arith, get_or-le-sum_by (λ s. s) a.seats k d lt, a.constituencies.in_proportion.add_up, canton.house.1);
}

column_totals : (t : VoteTotals) (a : Targets t) → IsCanton t.canton →
    AreSeatTotals (length (seated_groups a.upper)) (map (λ g. get_or a.upper (g - 1) 0) (seated_groups a.upper))
column_totals t a canton = record {
  one_each = length-map (seated_groups a.upper) (λ g. get_or a.upper (g - 1) 0);
  from_1 = All-map (λ s. 1 ≤ s) (λ g. get_or a.upper (g - 1) 0) (seated_groups a.upper) (λ k d lt. (seated_are a.upper k d lt).seated);
  at_most_400 = All-map (λ s. s ≤ 400) (λ g. get_or a.upper (g - 1) 0) (seated_groups a.upper) (λ k d lt.
      let is = seated_are a.upper k d lt in
      let within = upper_within t a (get_or (seated_groups a.upper) k d - 1) (omega (arith, is.from_one, is.there)) in
      omega (arith, within, canton.house.1));
}

pub can_be_asked : (t : VoteTotals) (a : Targets t) → totals.AreTotals t → CanBeAsked (lower_question t a.seats a.upper)
can_be_asked t a limits = record {
  some_row = limits.canton.constituencies.0;
  few_rows = limits.canton.constituencies.1;
  some_column = some_seated t a limits.canton.house.0;
  few_columns = few_seated t a limits.canton.groups.1;
  row_totals = row_totals t a limits.canton;
  column_totals = column_totals t a limits.canton;
  votes = column_has_votes t a;
}

-- each constituency has a seat
pub each_seated : (t : VoteTotals) (seats : List ℕ) → HaveSeats t seats → All (λ r. 1 ≤ r) seats
each_seated t seats have = All-from_get_or (λ r. 1 ≤ r) seats 0 have.each
