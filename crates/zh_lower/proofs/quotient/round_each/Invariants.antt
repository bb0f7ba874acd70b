use Rattle.std.proofs.Common.{◌≡◌, ℕ, ◌<◌, get_or}
use Rattle.zh_matrices.specs.Asked.{asked}
use Rattle.zh_lower.specs.Places.{no_quotient, quotient_at, rounded_at}
use Rattle.zh_lower.specs.SearchRooms.{divisors_of}
use Rattle.zh_lower.proofs.quotient.round_each.Given as goal

abbrev pub invariant-loop-place : goal.invariant-loop-place
invariant-loop-place l = record {
  quotients : (k : ℕ) → k < l.place → get_or l.quotients k no_quotient ≡ quotient_at (asked l.question) (divisors_of l.state) k;
  seats : (k : ℕ) → k < l.place → get_or l.seats k 0 ≡ rounded_at (asked l.question) (divisors_of l.state) k;
}
