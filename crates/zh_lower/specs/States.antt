-- The states of the search: the divisors after the start, and after each half-step.
use Rattle.std.specs.Prelude.{ℕ, zero, suc, ◌+◌, ◌*◌, ◌%◌, ◌^◌, Bool, false, not, ◌||◌, ◌==◌, if◌then◌else◌, List, map, slice_index}
use Rattle.std.specs.List.{range_with_len}
use Rattle.zh_divisors.specs.Line.{half_up_total, line_divisor}
use Rattle.zh_matrices.specs.Divisors.{Divisors, millionths}
use Rattle.zh_matrices.specs.Question.{Question, row_votes, column_votes}

-- n / p lies exactly on a half: n / p + 1/2 is a whole number
abbrev pub is_half : ℕ → ℕ → Bool
is_half n p = (2 * n + p) % (2 * p) == 0

-- one of the first n quotients of a line, with the divisor D, lies on a half
abbrev pub holds_half : ℕ → (ℕ → ℕ) → (ℕ → ℕ) → ℕ → Bool
holds_half zero votes others D = false
holds_half (suc n) votes others D = holds_half n votes others D || is_half (votes n * 10 ^ 12) (others n * D)

-- the quotients of a line, rounded half up, do not add up to its total, or one of them lies on a half
abbrev pub is_unsettled : ℕ → (ℕ → ℕ) → (ℕ → ℕ) → ℕ → ℕ → Bool
is_unsettled n votes others total D = not (half_up_total n votes others D == total) || holds_half n votes others D

-- the middle of the range of a row, and of a column (the rule of a line)
abbrev pub middle_row : Question → Divisors → ℕ → ℕ
middle_row q x d = line_divisor q.columns (row_votes q d) (slice_index x.of_columns) (slice_index q.row_totals d) (10 ^ 18)

abbrev pub middle_column : Question → Divisors → ℕ → ℕ
middle_column q x g = line_divisor q.rows (column_votes q g) (slice_index x.of_rows) (slice_index q.column_totals g) (10 ^ 12)

-- a line's divisor after a half-step
abbrev pub renewed : ℕ → (ℕ → ℕ) → (ℕ → ℕ) → ℕ → ℕ → ℕ → ℕ
renewed n votes others total most D =
    if is_unsettled n votes others total D then line_divisor n votes others total most else D

abbrev pub renewed_row : Question → Divisors → ℕ → ℕ
renewed_row q x d =
    renewed q.columns (row_votes q d) (slice_index x.of_columns) (slice_index q.row_totals d) (10 ^ 18) (slice_index x.of_rows d)

abbrev pub renewed_column : Question → Divisors → ℕ → ℕ
renewed_column q x g =
    renewed q.rows (column_votes q g) (slice_index x.of_rows) (slice_index q.column_totals g) (10 ^ 12) (slice_index x.of_columns g)

-- the two half-steps
abbrev pub with_rows_renewed : Question → Divisors → Divisors
with_rows_renewed q x = millionths (map (renewed_row q x) (range_with_len 0 q.rows)) x.of_columns

abbrev pub with_columns_renewed : Question → Divisors → Divisors
with_columns_renewed q x = millionths x.of_rows (map (renewed_column q x) (range_with_len 0 q.columns))

-- all columns at 1
abbrev pub started_columns : Question → List ℕ
started_columns q = map (λ g. 1000000) (range_with_len 0 q.columns)

abbrev pub started_row : Question → ℕ → ℕ
started_row q d =
    line_divisor q.columns (row_votes q d) (slice_index (started_columns q)) (slice_index q.row_totals d) (10 ^ 18)

-- the start: all columns at 1, and each row with the divisor of its rule
abbrev pub start : Question → Divisors
start q = millionths (map (started_row q) (range_with_len 0 q.rows)) (started_columns q)

-- the divisors after n half-steps, columns first
abbrev pub state : Question → ℕ → Divisors
state q zero = start q
state q (suc n) = if n % 2 == 0 then with_columns_renewed q (state q n) else with_rows_renewed q (state q n)
