-- Floating-point divisors with short mantissas: the product of two mantissas fits into 128 bits.
use Rattle.std.specs.Prelude.{ℕ, ◌^◌, ◌<◌, ◌≤◌, List}
use Rattle.zh_decided.specs.Floats.{float_at}
use Rattle.zh_decided.specs.declared.floating.Floating.{Floating}

-- the first n divisors have mantissas up to 2^32 and exponents up to 2^40
pub record HaveShortMantissas (n : ℕ) (xs : List Floating) : Type 0 where
  pub mantissas : (i : ℕ) → i < n → (float_at xs i).mantissa ≤ 2 ^ 32
  pub exponents : (i : ℕ) → i < n → (float_at xs i).exponent ≤ 2 ^ 40
