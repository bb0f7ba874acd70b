-- The lists of a published distribution have no seats if they do not stand.
use Rattle.std.proofs.Common.{◌≡◌, ℕ, ◌+◌, ◌-◌, ◌*◌, ◌^◌, ◌<◌, ◌≤◌, false, List, length, get_or, Option, Some, None, refl, sym, ap, ◌∙◌, inl, inr, arith}
use Rattle.std.specs.Prelude.{◌==◌}
use Rattle.std.specs.Option.{option_map_or}
use Rattle.std.proofs.lemmas.Bool.{cases_lt, eqb-true}
use Rattle.std.proofs.lemmas.List.Quantifiers.{position-Some}
use Rattle.zh_districts.specs.Canton.{stands}
use Rattle.zh_matrices.specs.Question.{cell}
use Rattle.zh_matrices.specs.SeatMatrix.{seats_of}
use Rattle.zh_sheet.specs.Distribution.{Distribution, IsDistribution, question_of, seated_groups}
use Rattle.zh_sheet.specs.Given.{IsPublished}
use Rattle.zh_sheet.specs.Readings.{column_of, list_seats}
use Rattle.zh_sheet.proofs.CallerLemmas.{at_seated_votes}
use Rattle.zh_sheet_text.proofs.CallerLemmas.{each_at_most}
use Rattle.zh_totals.specs.Totals.{votes_in}
use Rattle.zh_check.proofs.ColumnLemmas.{divisor_or_0}

nothing_below : (n v c : ℕ) → n < 2 * (v * c) → v ≡ 0 → ⊥
nothing_below n v c lt none =
    let gone : v * c ≡ 0 * c = ap (λ m. m * c) none in
    omega (arith, lt, gone)

none_column : (x : Distribution) (d g : ℕ) (found : Option ℕ) → IsDistribution x → 1 ≤ d → d ≤ length x.totals.canton.constituencies →
    votes_in x.totals d g ≡ 0 → found ≡ column_of x g → option_map_or (λ column. seats_of x.lower d (column + 1)) found 0 ≡ 0
none_column x d g None is low high none e = refl
none_column x d g (Some k) is low high none e =
    let seated : List ℕ = seated_groups x.upper.seats in
    let columns : ℕ = length seated in
    let at = position-Some (λ s. s == g) seated k 0 (sym e) in
    let group : get_or seated k 0 ≡ g = eqb-true (get_or seated k 0) g at.1 in
    let row : d - 1 < length x.totals.canton.constituencies = omega (arith, low, high) in
    let number : d - 1 + 1 ≡ d = omega (arith, low) in
    let votes : cell columns (question_of x).votes (d - 1) k ≡ 0
    = at_seated_votes x.totals x.upper.seats (d - 1) k row at.0
    ∙ (ap (λ e. votes_in x.totals e (get_or seated k 0)) number ∙ (ap (votes_in x.totals d) group ∙ none)) in
    let rounds = is.lower.each_rounds (d - 1) k row at.0 in
    let width : length x.lower.divisors.of_columns ≡ columns = is.limits.columns.one_each in
    let column : k + 1 - 1 ≡ k = omega arith in
    let here : seats_of x.lower d (k + 1) ≡ cell columns x.lower.seats (d - 1) k
    = ap (λ w. cell w x.lower.seats (d - 1) (k + 1 - 1)) width ∙ ap (cell columns x.lower.seats (d - 1)) column in
    elim (cases_lt 0 (cell columns x.lower.seats (d - 1) k)) [
      | inl some ↦ absurd (nothing_below _ _ _ (rounds.above_lower (omega (arith, some))) votes)
      | inr zero ↦ omega (arith, here, zero)
    ]

-- a list that does not stand has no seats
pub hidden_seats : (x : Distribution) → IsPublished x → (d g : ℕ) → 1 ≤ d → d ≤ length x.totals.canton.constituencies → 1 ≤ g → g ≤ length x.totals.canton.groups →
    stands x.totals.canton d g ≡ false → list_seats x d g ≡ 0
hidden_seats x is d g low high from_one there not =
    none_column x d g (column_of x g) is.distribution low high (is.votes d low high g from_one there not) refl

-- divisors are within their limits
pub row_small : (x : Distribution) → IsDistribution x → (k : ℕ) → get_or x.lower.divisors.of_rows k 0 < 2 ^ 64
row_small x is k = omega (arith, each_at_most x.lower.divisors.of_rows (10 ^ 18) k is.limits.rows.at_most)

column_small : (x : Distribution) (found : Option ℕ) → IsDistribution x →
    option_map_or (λ k. get_or x.lower.divisors.of_columns k 0) found 0 < 2 ^ 64
column_small x None is = omega arith
column_small x (Some k) is = omega (arith, each_at_most x.lower.divisors.of_columns (10 ^ 12) k is.limits.columns.at_most)

pub group_small : (x : Distribution) → IsDistribution x → (g : ℕ) → divisor_or_0 x g < 2 ^ 64
group_small x is g = column_small x (column_of x g) is
