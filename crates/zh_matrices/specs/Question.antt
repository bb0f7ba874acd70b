-- What a lower apportionment is asked (GPR section 104): the votes of each group in each constituency, and the seats
-- that each constituency and each group is to get.
use Rattle.std.specs.Prelude.{◌≡◌, ℕ, ◌+◌, ◌-◌, ◌*◌, ◌^◌, ◌<◌, ◌≤◌, List, All, length, slice_index}
use Rattle.zh_divisors.specs.Sums.{sum_to}

-- votes in rows (the constituencies) and columns (the groups), listed row by row
pub record VoteMatrix : Type 0 where
  pub rows : ℕ
  pub columns : ℕ
  pub votes : List ℕ

-- 1 to 32 rows, 1 to 32 columns, and at most 10^14 votes in a cell
pub record IsVoteMatrix (matrix : VoteMatrix) : Type 0 where
  pub some_row : 1 ≤ matrix.rows
  pub few_rows : matrix.rows ≤ 32
  pub some_column : 1 ≤ matrix.columns
  pub few_columns : matrix.columns ≤ 32
  pub length_votes : length matrix.votes ≡ matrix.rows * matrix.columns
  pub each_vote : All (λ v. v ≤ 10 ^ 14) matrix.votes

-- the number in row d and column g, both counted from 0, of a matrix that is listed row by row
abbrev pub cell : ℕ → List ℕ → ℕ → ℕ → ℕ
cell columns m d g = slice_index m (d * columns + g)

-- the votes, and the seats that each row and each column is to get
pub record Question : Type 0 where
  pub rows : ℕ
  pub columns : ℕ
  pub votes : List ℕ
  pub row_totals : List ℕ
  pub column_totals : List ℕ

abbrev pub question : VoteMatrix → List ℕ → List ℕ → Question
question matrix row_totals column_totals = record {
  rows = matrix.rows;
  columns = matrix.columns;
  votes = matrix.votes;
  row_totals = row_totals;
  column_totals = column_totals;
}

-- the votes of row d by column, and of column g by row
abbrev pub row_votes : Question → ℕ → ℕ → ℕ
row_votes q d g = cell q.columns q.votes d g

abbrev pub column_votes : Question → ℕ → ℕ → ℕ
column_votes q g d = cell q.columns q.votes d g

-- one of the first n numbers of votes is positive
abbrev pub HasVotes : ℕ → (ℕ → ℕ) → Type 0
HasVotes n votes = 0 < sum_to n votes

abbrev pub EachRowHasVotes : Question → Type 0
EachRowHasVotes q = (d : ℕ) → d < q.rows → HasVotes q.columns (row_votes q d)

abbrev pub EachColumnHasVotes : Question → Type 0
EachColumnHasVotes q = (g : ℕ) → g < q.columns → HasVotes q.rows (column_votes q g)

-- one total of 1 to 400 seats for each of n lines
pub record AreSeatTotals (n : ℕ) (totals : List ℕ) : Type 0 where
  pub one_each : length totals ≡ n
  pub from_1 : All (λ t. 1 ≤ t) totals
  pub at_most_400 : All (λ t. t ≤ 400) totals

-- a matrix within the limits, and a total for each line
pub record IsSized (q : Question) : Type 0 where
  pub few_rows : q.rows ≤ 32
  pub few_columns : q.columns ≤ 32
  pub length_votes : length q.votes ≡ q.rows * q.columns
  pub each_vote : All (λ v. v ≤ 10 ^ 14) q.votes
  pub length_row_totals : length q.row_totals ≡ q.rows
  pub length_column_totals : length q.column_totals ≡ q.columns

-- row d, counted from 1, is the first row without votes
pub record IsFirstWithoutVotes (q : Question) (d : ℕ) : Type 0 where
  pub from_1 : 1 ≤ d
  pub there : d ≤ q.rows
  pub none : ¬ HasVotes q.columns (row_votes q (d - 1))
  pub before : (e : ℕ) → e < d - 1 → HasVotes q.columns (row_votes q e)
