-- Seats of each group in each constituency (GPR section 104): which follow from votes, totals and divisors.
use Rattle.std.specs.Prelude.{◌≡◌, ℕ, ◌+◌, ◌-◌, ◌*◌, ◌<◌, ◌≤◌, List, length, slice_index}
use Rattle.zh_divisors.specs.Rounding.{Rounds}
use Rattle.zh_divisors.specs.Sums.{sum_to}
use Rattle.zh_matrices.specs.Divisors.{Divisors}
use Rattle.zh_matrices.specs.Question.{Question, cell}

-- n / p rounds to s, a half either way
pub record MayRound (n p s : ℕ) : Type 0 where
  pub to_upper : 2 * n ≤ (2 * s + 1) * p
  pub from_lower : 1 ≤ s → (2 * s - 1) * p ≤ 2 * n

-- the seats of each row add up to its total, and the seats of each column to its total
abbrev pub RowsAddUp : Question → List ℕ → Type 0
RowsAddUp q seats = (d : ℕ) → d < q.rows → sum_to q.columns (λ g. cell q.columns seats d g) ≡ slice_index q.row_totals d

abbrev pub ColumnsAddUp : Question → List ℕ → Type 0
ColumnsAddUp q seats = (g : ℕ) → g < q.columns → sum_to q.rows (λ d. cell q.columns seats d g) ≡ slice_index q.column_totals g

-- the first n numbers are positive
abbrev pub ArePositive : ℕ → List ℕ → Type 0
ArePositive n xs = (i : ℕ) → i < n → 0 < slice_index xs i

-- the votes of each cell over the product of its two divisors round to its seats
abbrev pub EachRounds : (ℕ → ℕ → ℕ → Type 0) → Question → Divisors → List ℕ → Type 0
EachRounds rounding q divisors seats = (d g : ℕ) → d < q.rows → g < q.columns →
    rounding (cell q.columns q.votes d g * (divisors.scale * divisors.scale))
    (slice_index divisors.of_rows d * slice_index divisors.of_columns g) (cell q.columns seats d g)

-- seats with these totals that follow from the divisors by this kind of rounding
pub record Follows (rounding : ℕ → ℕ → ℕ → Type 0) (q : Question) (divisors : Divisors) (seats : List ℕ) : Type 0 where
  pub one_each : length seats ≡ q.rows * q.columns
  pub rows_add_up : RowsAddUp q seats
  pub columns_add_up : ColumnsAddUp q seats
  pub scale_positive : 0 < divisors.scale
  pub row_divisors : ArePositive q.rows divisors.of_rows
  pub column_divisors : ArePositive q.columns divisors.of_columns
  pub each_rounds : EachRounds rounding q divisors seats

-- the seats follow from the divisors, and no quotient is on a half
abbrev pub IsStrict : Question → Divisors → List ℕ → Type 0
IsStrict = Follows Rounds

-- the seats follow from the divisors, halves rounded either way
abbrev pub IsWeak : Question → Divisors → List ℕ → Type 0
IsWeak = Follows MayRound

-- the seats of each cell, row by row, and the divisors that give them
pub record SeatMatrix : Type 0 where
  pub seats : List ℕ
  pub divisors : Divisors

-- the seats in row d and column g, both counted from 1
abbrev pub seats_of : SeatMatrix → ℕ → ℕ → ℕ
seats_of matrix d g = cell (length matrix.divisors.of_columns) matrix.seats (d - 1) (g - 1)
