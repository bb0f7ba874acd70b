-- The divisors that are shown if no state of the search gives seats: the middle of those that give the seats.
use Rattle.std.specs.Prelude.{◌≡◌, ℕ, zero, suc, ◌/◌, ◌^◌, ◌<◌, ◌≤◌, ◌⊎◌, max, List, [], map, slice_index}
use Rattle.std.specs.List.{range_with_len}
use Rattle.zh_matrices.specs.Divisors.{Divisors, millionths}
use Rattle.zh_matrices.specs.Question.{Question}
use Rattle.zh_matrices.specs.SeatMatrix.{IsStrict}
use Rattle.zh_lower.specs.Outcomes.{HasNone}
use Rattle.zh_lower.specs.States.{middle_column, middle_row}
use Rattle.zh_lower.specs.Extremes.{ComeTo, Give}

-- these column divisors give some seats, with some row divisors
pub record GiveSome (q : Question) (top : ℕ) (of_columns : List ℕ) : Type 0 where
  pub seats : List ℕ
  pub of_rows : List ℕ
  pub give : Give q top seats of_rows of_columns

-- these column divisors give some seats, and no others up to the top that give some have a greater one in any column
pub record IsGreatest (q : Question) (top : ℕ) (of_columns : List ℕ) : Type 0 where
  pub give : GiveSome q top of_columns
  pub greatest : (others : List ℕ) → GiveSome q top others →
      (g : ℕ) → g < q.columns → slice_index others g ≤ slice_index of_columns g

-- each row divisor, and then each column divisor, in the middle of its range (the rule of a line)
abbrev pub with_rows_middled : Question → Divisors → Divisors
with_rows_middled q x = millionths (map (middle_row q x) (range_with_len 0 q.rows)) x.of_columns

abbrev pub with_columns_middled : Question → Divisors → Divisors
with_columns_middled q x = millionths x.of_rows (map (middle_column q x) (range_with_len 0 q.columns))

-- both of these n times; it is not unfolded, since for a numeral every step would be
unfoldable pub middled : Question → ℕ → Divisors → Divisors
middled q zero x = x
middled q (suc n) x = with_columns_middled q (with_rows_middled q (middled q n x))

-- column divisors over `scale`, rounded down but not below 1 millionth
abbrev pub scaled_down : ℕ → List ℕ → List ℕ
scaled_down scale of_columns = map (λ x. max 1 (x / scale)) of_columns

-- the middle: 16 times, starting from these column divisors; the rows follow from them
abbrev pub middle_from : Question → List ℕ → Divisors
middle_from q of_columns = middled q 16 (millionths [] of_columns)

-- x is the middle from these columns scaled down, if that gives seats, and otherwise the middle from the columns as they are
abbrev pub IsMiddle : Question → ℕ → List ℕ → Divisors → Type 0
IsMiddle q scale of_columns x =
    ((x ≡ middle_from q (scaled_down scale of_columns)) × ((seats : List ℕ) × IsStrict q x seats))
    ⊎ ((x ≡ middle_from q of_columns) × HasNone q (middle_from q (scaled_down scale of_columns)))

-- x gives these seats and is the middle from the greatest columns up to the top, with a scale by which the top becomes 1; 1,000
-- rounds reach these greatest columns, with rows that give the seats
pub record IsSecondWithin (q : Question) (top : ℕ) (seats : List ℕ) (x : Divisors) : Type 0 where
  pub rows : List ℕ
  pub columns : List ℕ
  pub rounds : ComeTo q top seats 1000 (millionths rows columns)
  pub give : Give q top seats rows columns
  pub greatest : IsGreatest q top columns
  pub middle : IsMiddle q (top / 1000000) columns x
  pub strict : IsStrict q x seats

-- x is the middle for these seats with columns up to 1,000 or, only if there is none, with columns up to 1,000,000
abbrev pub IsSecondFor : Question → List ℕ → Divisors → Type 0
IsSecondFor q seats x = IsSecondWithin q (10 ^ 9) seats x
    ⊎ (((y : Divisors) → ¬ IsSecondWithin q (10 ^ 9) seats y) × IsSecondWithin q (10 ^ 12) seats x)

-- no divisors are the middle for these seats
abbrev pub HaveNoSecond : Question → List ℕ → Type 0
HaveNoSecond q seats = (x : Divisors) → ¬ IsSecondFor q seats x

-- the middle for some seats
abbrev pub IsSecond : Question → Divisors → Type 0
IsSecond q x = (seats : List ℕ) × IsSecondFor q seats x
