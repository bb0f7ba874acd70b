-- Why no divisors give seats: the votes of some rows lie in columns that together have fewer seats than these rows.
use Rattle.std.specs.Prelude.{ℕ, ◌<◌, Bool, false, nat_lt, if◌then◌else◌, List, slice_index, slice_index_or}
use Rattle.zh_divisors.specs.Sums.{sum_to}
use Rattle.zh_matrices.specs.Fitting.{FitsVotes}
use Rattle.zh_matrices.specs.Question.{Question, cell}

-- some matrix on the votes has the totals
abbrev pub IsPossible : Question → Type 0
IsPossible q = (seats : List ℕ) × FitsVotes q seats

-- row d, counted from 0, is one of these rows
abbrev pub is_among : List Bool → ℕ → Bool
is_among rows d = slice_index_or rows d false

-- the votes of these rows in column g
abbrev pub votes_among : Question → List Bool → ℕ → ℕ
votes_among q rows g = sum_to q.rows (λ d. if is_among rows d then cell q.columns q.votes d g else 0)

-- the seats that these rows are to get
abbrev pub seats_due : Question → List Bool → ℕ
seats_due q rows = sum_to q.rows (λ d. if is_among rows d then slice_index q.row_totals d else 0)

-- the seats of the columns in which these rows have votes
abbrev pub seats_there : Question → List Bool → ℕ
seats_there q rows = sum_to q.columns (λ g. if nat_lt 0 (votes_among q rows g) then slice_index q.column_totals g else 0)

-- the votes of these rows lie in columns that together have fewer seats than these rows are to get
abbrev pub HasTooFewSeats : Question → List Bool → Type 0
HasTooFewSeats q rows = seats_there q rows < seats_due q rows
