use Rattle.std.proofs.Common.{ℕ, ◌<◌, ◌≤◌, slice_index}
use Rattle.zh_matrices.specs.Asked.{asked}
use Rattle.zh_decided.specs.Ways.{column_seats}
use Rattle.zh_decided.proofs.within.have_columns_room.Given as goal

abbrev pub invariant-loop-column : goal.invariant-loop-column
invariant-loop-column l = (g : ℕ) → g < l.column → column_seats (asked l.question) l.seats g ≤ slice_index l.question.column_totals.now g
