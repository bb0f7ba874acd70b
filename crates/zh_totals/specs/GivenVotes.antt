-- Totals whose votes are given, constituency by constituency: a row for each.
use Rattle.std.specs.Prelude.{◌≡◌, ℕ, ◌+◌, ◌*◌, ◌^◌, ◌<◌, ◌≤◌, Option, MatchOption, List, length, slice_index}
use Rattle.zh_divisors.specs.Sums.{sum_to}
use Rattle.zh_totals.specs.Totals.{AreTotals, VoteTotals}

-- the sum of n votes from a place on
abbrev pub votes_from : List ℕ → ℕ → ℕ → ℕ
votes_from votes first n = sum_to n (λ j. slice_index votes (first + j))

-- the votes of the first `rows` rows together
abbrev pub votes_of_rows : List ℕ → ℕ → ℕ → ℕ
votes_of_rows votes columns rows = sum_to rows (λ d. votes_from votes (d * columns) columns)

-- the sum of each of the first `rows` rows; together they are at most 10^14
pub record AreRowSums (votes : List ℕ) (columns rows : ℕ) (sums : List ℕ) : Type 0 where
  pub one_each : length sums ≡ rows
  pub each : (d : ℕ) → d < rows → slice_index sums d ≡ votes_from votes (d * columns) columns
  pub most : votes_of_rows votes columns rows ≤ 10 ^ 14

-- the given totals, if and only if they are within their limits
abbrev pub AreTotalsOf : VoteTotals → Option VoteTotals → Type 0
AreTotalsOf given totals = MatchOption totals (¬ AreTotals given) (λ found. (found ≡ given) × AreTotals given)
