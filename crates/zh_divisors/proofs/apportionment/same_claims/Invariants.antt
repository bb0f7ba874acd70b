use Rattle.std.proofs.Common.{◌≡◌, ◌<◌, ℕ, IsTrue, false, length}
use Rattle.std.specs.Prelude.{◌↔◌, slice_index_or}
use Rattle.zh_divisors.specs.Claims.{HasSameClaim}
use Rattle.zh_divisors.proofs.apportionment.same_claims.Given as goal

abbrev pub invariant-loop-k : goal.invariant-loop-k
invariant-loop-k l =
    (length l.claims.items ≡ length l.weights)
    × ((k : ℕ) → k < l.k → IsTrue (slice_index_or l.claims.items k false) ↔ HasSameClaim l.weights l.house k)
