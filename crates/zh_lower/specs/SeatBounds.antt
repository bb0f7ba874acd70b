-- The fewest and the most seats that divisors allow each cell, with halves rounded either way.
use Rattle.std.specs.Prelude.{ℕ, ◌*◌, ◌^◌, min, List, map, slice_index}
use Rattle.std.specs.List.{range_with_len}
use Rattle.zh_divisors.specs.Line.{half_down, half_up}
use Rattle.zh_matrices.specs.Divisors.{Divisors}
use Rattle.zh_matrices.specs.Question.{Question}
use Rattle.zh_decided.specs.Bounds.{CellBounds}
use Rattle.zh_lower.specs.Places.{product_at}

-- the quotient of a cell rounded half down, capped at 401: no row gets that many
abbrev pub least_at : Question → Divisors → ℕ → ℕ
least_at q x place = min 401 (half_down (slice_index q.votes place * 10 ^ 12) (product_at q x place))

-- the same, rounded half up
abbrev pub most_at : Question → Divisors → ℕ → ℕ
most_at q x place = min 401 (half_up (slice_index q.votes place * 10 ^ 12) (product_at q x place))

abbrev pub least_seats : Question → Divisors → List ℕ
least_seats q x = map (least_at q x) (range_with_len 0 (q.rows * q.columns))

abbrev pub most_seats : Question → Divisors → List ℕ
most_seats q x = map (most_at q x) (range_with_len 0 (q.rows * q.columns))

abbrev pub seat_bounds : Question → Divisors → CellBounds
seat_bounds q x = record { least = least_seats q x; most = most_seats q x }
