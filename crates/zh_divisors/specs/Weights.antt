-- The limits of weights and seats in an apportionment.
use Rattle.std.specs.Prelude.{◌≡◌, ℕ, ◌^◌, ◌≤◌, List, All, length}

-- 1 to 32 weights, none above 10^14
pub record AreWeights (weights : List ℕ) : Type 0 where
  pub not_empty : 1 ≤ length weights
  pub at_most_32 : length weights ≤ 32
  pub each_small : All (λ w. w ≤ 10 ^ 14) weights

-- at most 400 seats for each weight, so that the product of a weight and a number of half seats fits into 64 bits
pub record AreSmall (weights seats : List ℕ) : Type 0 where
  pub one_each : length seats ≡ length weights
  pub each_weight : All (λ w. w ≤ 10 ^ 14) weights
  pub each_seat : All (λ s. s ≤ 400) seats
