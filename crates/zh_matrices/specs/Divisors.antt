-- The divisors of a lower apportionment.
use Rattle.std.specs.Prelude.{◌≡◌, ℕ, ◌^◌, ◌≤◌, List, All, length}
use Rattle.zh_matrices.specs.Question.{Question}

-- a divisor for each row and each column, in units of 1 / scale
pub record Divisors : Type 0 where
  pub scale : ℕ
  pub of_rows : List ℕ
  pub of_columns : List ℕ

-- these divisors, which are in millionths
abbrev pub millionths : List ℕ → List ℕ → Divisors
millionths of_rows of_columns = record { scale = 1000000; of_rows = of_rows; of_columns = of_columns }

-- one divisor for each of n lines, from 1 to `most`
pub record AreWithin (n most : ℕ) (divisors : List ℕ) : Type 0 where
  pub one_each : length divisors ≡ n
  pub from_1 : All (λ x. 1 ≤ x) divisors
  pub at_most : All (λ x. x ≤ most) divisors

-- divisors in millionths, 1 to 10^18 for a row and 1 to 10^12 for a column
pub record AreWithinLimits (q : Question) (of_rows of_columns : List ℕ) : Type 0 where
  pub rows : AreWithin q.rows (10 ^ 18) of_rows
  pub columns : AreWithin q.columns (10 ^ 12) of_columns
