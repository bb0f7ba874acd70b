-- What seats cost: the price of seat number j of a cell, from 0, is 2^60 plus the logarithm of 2 j + 1, less that of twice the
-- cell's votes. The logarithms need not be exact: they must be at most 2^36 and must not fall from one odd number to the next.
-- So the prices of a cell never fall from seat to seat.
use Rattle.std.specs.Prelude.{ℕ, ◌+◌, ◌-◌, ◌*◌, ◌^◌, ◌<◌, ◌≤◌, List, All, length, slice_index}
use Rattle.zh_divisors.specs.Sums.{sum_to}
use Rattle.zh_matrices.specs.Question.{Question, cell}

-- the logarithms of twice the votes of each cell, row by row, and of the odd numbers from 1 on
pub record Logs : Type 0 where
  pub of_votes : List ℕ
  pub of_odds : List ℕ

pub record AreLogs (l : Logs) : Type 0 where
  pub enough : 401 ≤ length l.of_odds
  pub small_votes : All (λ x. x ≤ 2 ^ 36) l.of_votes
  pub small_odds : All (λ x. x ≤ 2 ^ 36) l.of_odds
  pub rising : (j : ℕ) → j + 1 < length l.of_odds → slice_index l.of_odds j ≤ slice_index l.of_odds (j + 1)

-- the price of seat j of cell k, above 0 whatever the votes
abbrev pub seat_price : Logs → ℕ → ℕ → ℕ
seat_price l k j = 2 ^ 60 + slice_index l.of_odds j - slice_index l.of_votes k

-- the votes and the seats of each cell, by row and column
pub record Cells : Type 0 where
  pub rows : ℕ
  pub columns : ℕ
  pub votes : ℕ → ℕ → ℕ
  pub seats : ℕ → ℕ → ℕ

abbrev pub cells : Question → List ℕ → Cells
cells q seats = record { rows = q.rows; columns = q.columns; votes = cell q.columns q.votes; seats = cell q.columns seats }

-- cells, and the price of the next seat and of the last seat of each
pub record Priced : Type 0 where
  pub cells : Cells
  pub next : ℕ → ℕ → ℕ
  pub last : ℕ → ℕ → ℕ

abbrev pub priced : Question → Logs → List ℕ → Priced
priced q l seats = record {
  cells = cells q seats;
  next = λ d g. seat_price l (d * q.columns + g) (cell q.columns seats d g);
  last = λ d g. seat_price l (d * q.columns + g) (cell q.columns seats d g - 1);
}

-- the price of all seats of a row, and of all seats of the matrix
abbrev pub row_cost : Question → Logs → List ℕ → ℕ → ℕ
row_cost q l seats d = sum_to q.columns (λ g. sum_to (cell q.columns seats d g) (seat_price l (d * q.columns + g)))

abbrev pub cost : Question → Logs → List ℕ → ℕ
cost q l seats = sum_to q.rows (row_cost q l seats)
