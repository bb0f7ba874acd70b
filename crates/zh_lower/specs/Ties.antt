-- A tie that the search reaches, and the bounds within which the lot decides.
use Rattle.std.specs.Prelude.{ℕ, ◌+◌, ◌*◌, ◌/◌, ◌%◌, ◌<◌, ◌≤◌, List, slice_index}
use Rattle.zh_matrices.specs.Divisors.{AreWithinLimits}
use Rattle.zh_matrices.specs.Lots.{HasRange, MayBeDrawn}
use Rattle.zh_matrices.specs.Question.{Question}
use Rattle.zh_matrices.specs.SeatMatrix.{IsWeak}
use Rattle.zh_decided.specs.Bounds.{CellBounds, IsWithin}
use Rattle.zh_lower.specs.Outcomes.{IsProper, IsReached, IsTiedAt}
use Rattle.zh_lower.specs.SearchRooms.{divisors_of}
use Rattle.zh_lower.specs.declared.tie.Tie.{Tie}

-- the search reaches these divisors, which are tied, and the seats follow weakly from them
pub record IsLowerTie (q : Question) (tie : Tie) : Type 0 where
  pub proper : IsProper q
  pub limits : AreWithinLimits q tie.divisors.of_rows.items tie.divisors.of_columns.items
  pub reached : IsReached q (divisors_of tie.divisors)
  pub tied : IsTiedAt q (divisors_of tie.divisors) tie.row tie.column
  pub weak : IsWeak q (divisors_of tie.divisors) tie.seats.items

-- the matrices within these bounds are exactly those that may be drawn, and the bounds of a cell differ by at most 1
pub record EncloseDraws (q : Question) (bounds : CellBounds) : Type 0 where
  pub within : (seats : List ℕ) → MayBeDrawn q seats → IsWithin q bounds seats
  pub drawn : (seats : List ℕ) → IsWithin q bounds seats → MayBeDrawn q seats
  pub neighbours : (place : ℕ) → place < q.rows * q.columns → slice_index bounds.most place ≤ slice_index bounds.least place + 1

-- the range of the cell in a place
abbrev pub HasRangeAt : Question → ℕ → ℕ → ℕ → Type 0
HasRangeAt q place least most = HasRange q (place / q.columns) (place % q.columns) least most
