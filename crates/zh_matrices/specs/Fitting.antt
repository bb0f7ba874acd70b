-- Matrices of seats on votes with given totals.
use Rattle.std.specs.Prelude.{◌≡◌, ℕ, ◌*◌, ◌<◌, List, length}
use Rattle.zh_matrices.specs.Question.{Question, cell}
use Rattle.zh_matrices.specs.SeatMatrix.{ColumnsAddUp, RowsAddUp}

-- no seats where there are no votes
abbrev pub AreOnVotes : Question → List ℕ → Type 0
AreOnVotes q seats = (d g : ℕ) → d < q.rows → g < q.columns → cell q.columns q.votes d g ≡ 0 → cell q.columns seats d g ≡ 0

-- a matrix of seats with these totals, and no seats where there are no votes
pub record FitsVotes (q : Question) (seats : List ℕ) : Type 0 where
  pub one_each : length seats ≡ q.rows * q.columns
  pub rows_add_up : RowsAddUp q seats
  pub columns_add_up : ColumnsAddUp q seats
  pub on_votes : AreOnVotes q seats
