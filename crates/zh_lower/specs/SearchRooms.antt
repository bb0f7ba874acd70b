-- The divisors of a state, and the room for a search.
use Rattle.std.specs.Prelude.{◌≡◌, ◌*◌, length}
use Rattle.zh_matrices.specs.Divisors.{Divisors, millionths}
use Rattle.zh_matrices.specs.Question.{Question}
use Rattle.zh_lower.specs.States.{started_columns}
use Rattle.zh_lower.specs.declared.alternating_scaling.SearchRoom.{SearchRoom}
use Rattle.zh_lower.specs.declared.alternating_scaling.SearchState.{SearchState}

abbrev pub divisors_of : SearchState → Divisors
divisors_of state = millionths state.of_rows.items state.of_columns.items

-- the state before the start: every column is at 1
pub record IsBeforeStart (q : Question) (state : SearchState) : Type 0 where
  pub rows : length state.of_rows.items ≡ q.rows
  pub columns : state.of_columns.items ≡ started_columns q

-- one place for each cell
pub record IsSearchRoom (q : Question) (room : SearchRoom) : Type 0 where
  pub quotients : length room.quotients.items ≡ q.rows * q.columns
  pub seats : length room.seats.items ≡ q.rows * q.columns
  pub others : length room.others.items ≡ q.rows * q.columns
  pub least : length room.least.items ≡ q.rows * q.columns
  pub most : length room.most.items ≡ q.rows * q.columns
