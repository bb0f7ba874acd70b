-- Matrices with given totals and with a lower and an upper bound for each cell.
use Rattle.std.specs.Prelude.{◌≡◌, ◌≢◌, ℕ, ◌*◌, ◌<◌, ◌≤◌, List, length, slice_index}
use Rattle.zh_matrices.specs.Asked.{asked}
use Rattle.zh_matrices.specs.Question.{Question, cell}
use Rattle.zh_matrices.specs.SeatMatrix.{ColumnsAddUp, RowsAddUp}
use Rattle.zh_decided.specs.declared.cells.CellBounds as borrowed

-- the fewest and the most seats that each cell may have, row by row
pub record CellBounds : Type 0 where
  pub least : List ℕ
  pub most : List ℕ

-- the bounds that the code borrows, and the question that they belong to
abbrev pub bounds_of : borrowed.CellBounds → CellBounds
bounds_of b = record { least = b.least.now; most = b.most.now }

abbrev pub asked_in : borrowed.CellBounds → Question
asked_in b = asked b.question.now

-- each cell has at least, or at most, the seats that it has in the first list
abbrev pub AreAtLeast : Question → List ℕ → List ℕ → Type 0
AreAtLeast q least seats = (d g : ℕ) → d < q.rows → g < q.columns → cell q.columns least d g ≤ cell q.columns seats d g

abbrev pub AreAtMost : Question → List ℕ → List ℕ → Type 0
AreAtMost q most seats = (d g : ℕ) → d < q.rows → g < q.columns → cell q.columns seats d g ≤ cell q.columns most d g

-- a matrix within these bounds with all totals
pub record IsWithin (q : Question) (bounds : CellBounds) (seats : List ℕ) : Type 0 where
  pub one_each : length seats ≡ q.rows * q.columns
  pub rows_add_up : RowsAddUp q seats
  pub columns_add_up : ColumnsAddUp q seats
  pub at_least : AreAtLeast q bounds.least seats
  pub at_most : AreAtMost q bounds.most seats

-- a matrix within the bounds that has a different number of seats in this place
pub record IsAnotherAt (q : Question) (bounds : CellBounds) (seats : List ℕ) (place : ℕ) (others : List ℕ) : Type 0 where
  pub within : IsWithin q bounds others
  pub other : slice_index others place ≢ slice_index seats place

-- all matrices within the bounds have the same number of seats in this place
abbrev pub IsFixedAt : Question → CellBounds → List ℕ → ℕ → Type 0
IsFixedAt q bounds seats place = (others : List ℕ) → IsWithin q bounds others → slice_index others place ≡ slice_index seats place
