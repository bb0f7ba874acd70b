use Rattle.std.proofs.Common.{ℕ, ◌<◌, ◌≤◌, slice_index}
use Rattle.zh_matrices.specs.Asked.{asked}
use Rattle.zh_decided.specs.Ways.{row_seats}
use Rattle.zh_decided.proofs.within.have_rows_room.Given as goal

abbrev pub invariant-loop-row : goal.invariant-loop-row
invariant-loop-row l = (d : ℕ) → d < l.row → row_seats (asked l.question) l.seats d ≤ slice_index l.question.row_totals.now d
