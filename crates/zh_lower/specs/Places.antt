-- The cells of a matrix by their places, row by row, under divisors in millionths.
use Rattle.std.specs.Prelude.{ℕ, ◌*◌, ◌/◌, ◌%◌, ◌^◌, ◌<◌, min, Bool, false, IsTrue, List, map, slice_index}
use Rattle.std.specs.List.{range_with_len}
use Rattle.zh_divisors.specs.Line.{half_up}
use Rattle.zh_matrices.specs.Divisors.{Divisors}
use Rattle.zh_matrices.specs.Question.{Question}
use Rattle.zh_lower.specs.States.{is_half}
use Rattle.zh_lower.specs.declared.quotient.Quotient.{Quotient}

-- the product of the two divisors of the cell in a place
abbrev pub product_at : Question → Divisors → ℕ → ℕ
product_at q x place = slice_index x.of_rows (place / q.columns) * slice_index x.of_columns (place % q.columns)

-- the quotient of the cell in a place, rounded half up and capped at 400
abbrev pub rounded_at : Question → Divisors → ℕ → ℕ
rounded_at q x place = min 400 (half_up (slice_index q.votes place * 10 ^ 12) (product_at q x place))

abbrev pub is_half_at : Question → Divisors → ℕ → Bool
is_half_at q x place = is_half (slice_index q.votes place * 10 ^ 12) (product_at q x place)

-- no quotient lies on a half
abbrev pub HasNoHalf : Question → Divisors → Type 0
HasNoHalf q x = (place : ℕ) → place < q.rows * q.columns → ¬ IsTrue (is_half_at q x place)

-- the quotient of the cell in a place, rounded half up, and whether it lies on a half
abbrev pub quotient_at : Question → Divisors → ℕ → Quotient
quotient_at q x place = record {
  rounded = half_up (slice_index q.votes place * 10 ^ 12) (product_at q x place);
  is_half = is_half_at q x place;
}

-- the default for a place outside the list
abbrev pub no_quotient : Quotient
no_quotient = record { rounded = 0; is_half = false }

abbrev pub quotients : Question → Divisors → List Quotient
quotients q x = map (quotient_at q x) (range_with_len 0 (q.rows * q.columns))

abbrev pub rounded : Question → Divisors → List ℕ
rounded q x = map (rounded_at q x) (range_with_len 0 (q.rows * q.columns))
