-- The room for finding divisors.
use Rattle.std.specs.Prelude.{◌≡◌, length}
use Rattle.zh_matrices.specs.Divisors.{Divisors, millionths}
use Rattle.zh_matrices.specs.Question.{Question}
use Rattle.zh_lower.specs.declared.divisors.DivisorRoom.{DivisorRoom}

-- the sizes of the room
pub record IsDivisorRoom (q : Question) (room : DivisorRoom) : Type 0 where
  pub rows : length room.of_rows.items ≡ q.rows
  pub columns : length room.of_columns.items ≡ q.columns
  pub greatest : length room.greatest.items ≡ q.columns

-- the divisors in the room
abbrev pub divisors_in : DivisorRoom → Divisors
divisors_in room = millionths room.of_rows.items room.of_columns.items
