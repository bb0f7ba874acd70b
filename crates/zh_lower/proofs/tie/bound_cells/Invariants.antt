use Rattle.std.proofs.Common.{◌≡◌, ℕ, ◌<◌, get_or}
use Rattle.zh_matrices.specs.Asked.{asked}
use Rattle.zh_lower.specs.SearchRooms.{divisors_of}
use Rattle.zh_lower.specs.SeatBounds.{least_at, most_at}
use Rattle.zh_lower.proofs.tie.bound_cells.Given as goal

abbrev pub invariant-loop-place : goal.invariant-loop-place
invariant-loop-place l = record {
  least : (k : ℕ) → k < l.place → get_or l.least k 0 ≡ least_at (asked l.question) (divisors_of l.state) k;
  most : (k : ℕ) → k < l.place → get_or l.most k 0 ≡ most_at (asked l.question) (divisors_of l.state) k;
}
