-- Logarithms to base 2 in units of 2^-30, defined by powers of whole numbers.
use Rattle.std.specs.Prelude.{◌≡◌, ℕ, zero, suc, ◌+◌, ◌*◌, ◌^◌, ◌<◌, ◌≤◌, Bool, if◌then◌else◌}

-- n to the power e; it is not unfolded, since a power of numerals would be computed, with up to 2^36 digits
unfoldable pub power : ℕ → ℕ → ℕ
power n e = n ^ e

-- the logarithm of 2
abbrev pub log_unit : ℕ
log_unit = 2 ^ 30

-- l is the logarithm of n, up to errors: it is at most `above` units too high and less than `below` units too low
pub record IsLog (above below n l : ℕ) : Type 0 where
  pub not_above : power 2 l ≤ power 2 above * power n log_unit
  pub not_below : power n log_unit < power 2 (l + below)

-- the square of m without its last 63 bits, or its last 64 if `twice`
pub record IsCutSquare (m square : ℕ) (twice : Bool) : Type 0 where
  pub least : 2 ^ 63 ≤ square
  pub fits : square < 2 ^ 64
  pub at_most : square * (if twice then 2 ^ 64 else 2 ^ 63) ≤ m * m
  pub nearly : m * m < (square + 1) * (if twice then 2 ^ 64 else 2 ^ 63)

-- a number shifted to the top of 64 bits, and the whole part of its logarithm
pub record IsShifted (n mantissa whole : ℕ) : Type 0 where
  pub least : 2 ^ 63 ≤ mantissa
  pub fits : mantissa < 2 ^ 64
  pub same : mantissa * 2 ^ whole ≡ n * 2 ^ 63

-- after a number of squarings, each truncated to 64 bits: the mantissa, and the logarithm with that number of binary places; it
-- is not unfolded, since for a numeral every squaring would be
unfoldable pub IsSquared : ℕ → ℕ → ℕ → ℕ → Type 0
IsSquared n zero mantissa places = IsShifted n mantissa places
IsSquared n (suc i) mantissa places = (before : ℕ) × (places_before : ℕ) × (twice : Bool) × IsSquared n i before places_before
    × IsCutSquare before mantissa twice × (places ≡ 2 * places_before + (if twice then 1 else 0))

-- the logarithm that 30 squarings give: each number from 1 to 2^64 - 1 has exactly one, and no larger number has a smaller one
pub record HasLogarithm (n l : ℕ) : Type 0 where
  pub mantissa : ℕ
  pub squared : IsSquared n 30 mantissa l

-- the greatest number up to `most` whose logarithm is at most l
pub record IsAntilogarithm (l most n : ℕ) : Type 0 where
  pub at_most : n ≤ most
  pub within : (k : ℕ) × HasLogarithm n k × (k ≤ l)
  pub next : n < most → (k : ℕ) × HasLogarithm (n + 1) k × (l < k)
