-- The result of an apportionment: seats, and a divisor that gives them.
use Rattle.std.specs.Prelude.{◌≡◌, ℕ, ◌+◌, ◌*◌, ◌<◌, List, length, slice_index, Result, IfOk, IsErrOf}
use Rattle.zh_divisors.specs.Fit.{IsStrictFit, IsTied}
use Rattle.zh_divisors.specs.Rounding.{Rounds}
use Rattle.zh_divisors.specs.Worth.{IsLeastLast, IsMostNext}
use Rattle.zh_divisors.specs.declared.shares.ShareFault.{ShareFault}
use Rattle.zh_divisors.specs.declared.shares.ShareFault.TheVariants.{Tied}

-- one number of seats for each weight, and the divisor num / den
pub record Apportionment : Type 0 where
  pub seats : List ℕ
  pub num : ℕ
  pub den : ℕ

-- each weight over num / den rounds to its seats and is not on a half
pub record RoundsEach (weights : List ℕ) (shares : Apportionment) : Type 0 where
  pub num_positive : 0 < shares.num
  pub den_positive : 0 < shares.den
  pub each : (k : ℕ) → k < length weights →
      Rounds (slice_index weights k * shares.den) shares.num (slice_index shares.seats k)

-- num is the sum of two weights and den the sum of their seats, not reduced: these are the first weight whose last seat is worth
-- least, and the first weight whose next seat is worth most
pub record HasDivisor (weights : List ℕ) (shares : Apportionment) : Type 0 where
  pub last : ℕ
  pub next : ℕ
  pub last_is : IsLeastLast weights shares.seats (length weights) last
  pub next_is : IsMostNext weights shares.seats (length weights) next
  pub num_is : shares.num ≡ slice_index weights last + slice_index weights next
  pub den_is : shares.den ≡ slice_index shares.seats last + slice_index shares.seats next

-- The seats of the house in proportion to the weights, with their divisor, or a tie: unless memory is refused, exactly one of the
-- two answers is possible.
pub record Apportions (weights : List ℕ) (house : ℕ) (result : Result Apportionment ShareFault) : Type 0 where
  pub seats : IfOk result (λ shares. IsStrictFit weights house shares.seats)
  pub divisor : IfOk result (HasDivisor weights)
  pub rounds : IfOk result (RoundsEach weights)
  pub untied : IfOk result (λ _. ¬ IsTied weights house)
  pub tied : IsErrOf result Tied → IsTied weights house
  pub no_strict : IsErrOf result Tied → (seats : List ℕ) → ¬ IsStrictFit weights house seats
