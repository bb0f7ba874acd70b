-- Weights over a divisor that puts one of them, n, on a half: 2 * n over an odd number m.
use Rattle.std.specs.Prelude.{ℕ, ◌+◌, ◌-◌, ◌*◌, ◌/◌, ◌^◌, ◌<◌, ◌≤◌, List, sum_by}

-- a weight over this divisor, rounded to the nearest whole number, a half up or down
abbrev pub rounded_up : ℕ → ℕ → ℕ → ℕ
rounded_up n m weight = (weight * m + n) / (2 * n)

abbrev pub rounded_down : ℕ → ℕ → ℕ → ℕ
rounded_down n m weight = (weight * m + n - 1) / (2 * n)

abbrev pub total_up : ℕ → ℕ → List ℕ → ℕ
total_up n m weights = sum_by (rounded_up n m) weights

-- a weight n from 1 to 10^14, and few enough halves for the products to fit into 64 bits
pub record AreFewHalves (n m : ℕ) : Type 0 where
  pub some : 1 ≤ n
  pub small : n ≤ 10 ^ 14
  pub few : m ≤ 801

-- h is the first number of seats for n with this property: under the divisor that puts n on the half above h, the seats rounded
-- half up add up to more than the house
pub record IsFirstAbove (weights : List ℕ) (house n h : ℕ) : Type 0 where
  pub within : h ≤ house
  pub above : house < total_up n (2 * h + 1) weights
  pub before : (i : ℕ) → i < h → total_up n (2 * i + 1) weights ≤ house
