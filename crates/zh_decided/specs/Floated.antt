-- Floating-point divisors whose logarithms come from potentials.
use Rattle.std.specs.Prelude.{ℕ, ◌+◌, ◌-◌, ◌*◌, ◌^◌, ◌<◌, ◌≤◌, List, slice_index}
use Rattle.zh_decided.specs.Floats.{float_at, value_of}
use Rattle.zh_decided.specs.declared.floating.Floating.{Floating}
use Rattle.zh_decided.specs.Logarithms.{IsLog, log_unit}
use Rattle.zh_decided.specs.declared.sweeps.Potentials.{Potentials}

pub record AreRowFloats (n : ℕ) (potentials : List ℕ) (divisors : List Floating) : Type 0 where
  pub logs : (d : ℕ) → d < n → IsLog 1 2 (value_of (float_at divisors d)) (31 * log_unit + (2 ^ 60 + 2 ^ 45 - slice_index potentials d))

pub record AreColumnFloats (n : ℕ) (potentials : List ℕ) (divisors : List Floating) : Type 0 where
  pub logs : (g : ℕ) → g < n → IsLog 1 2 (value_of (float_at divisors g)) (31 * log_unit + (2 ^ 45 + slice_index potentials g))

-- potentials that are small enough for floating-point divisors
pub record Fit (m n : ℕ) (p : Potentials) : Type 0 where
  pub rows : (d : ℕ) → d < m → slice_index p.of_rows d ≤ 2 ^ 60 + 2 ^ 45
  pub columns : (g : ℕ) → g < n → slice_index p.of_columns g ≤ 2 ^ 44
