-- The weights between which seats are tied.
use Rattle.std.specs.Prelude.{◌≡◌, ◌⊎◌, ℕ, ◌<◌, List, Bool, false, IsTrue, ◌↔◌, length, slice_index_or}
use Rattle.zh_divisors.specs.Fit.{IsTied}

-- weight k has the same claim as another: in some fit its next seat is worth as much as the last seat of the other, or its last
-- seat as much as the next seat of the other
pub record HasSameClaim (weights : List ℕ) (house k : ℕ) : Type 0 where
  pub tie : IsTied weights house
  pub side : (tie.from ≡ k) ⊎ (tie.to ≡ k)

-- one flag for each weight, in order: whether it has the same claim as another
pub record TellClaims (weights : List ℕ) (house : ℕ) (claims : List Bool) : Type 0 where
  pub one_each : length claims ≡ length weights
  pub each : (k : ℕ) → k < length weights → IsTrue (slice_index_or claims k false) ↔ HasSameClaim weights house k
