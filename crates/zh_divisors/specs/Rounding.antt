-- Rounding to the nearest whole number.
use Rattle.std.specs.Prelude.{ℕ, ◌+◌, ◌-◌, ◌*◌, ◌<◌, ◌≤◌}

-- n / p rounds to s and is not on a half
pub record Rounds (n p s : ℕ) : Type 0 where
  pub below_upper : 2 * n < (2 * s + 1) * p
  pub above_lower : 1 ≤ s → (2 * s - 1) * p < 2 * n
