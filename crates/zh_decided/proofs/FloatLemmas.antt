-- Floating-point numbers and their logarithms.
use Rattle.std.proofs.Common.{◌≡◌, ℕ, ◌+◌, ◌*◌, ◌/◌, ◌%◌, ◌^◌, ◌≤◌, List, map, get_or, slice_index, sym, ap, ◌∙◌, arith}
use Rattle.std.proofs.Math.ListN as lists
use Rattle.zh_decided.specs.Floats.{float_at, float_scale, value_of}
use Rattle.zh_decided.specs.declared.floating.Floating.{Floating}
use Rattle.zh_decided.specs.Logarithms.{IsLog, log_unit, power}
use Rattle.zh_decided.proofs.LogLemmas.{most_reached, of_power, of_shifted}
use Rattle.zh_decided.proofs.PowerLemmas.{power-add}

-- the logarithm of a mantissa times a power of two
pub floated : (m l : ℕ) → IsLog 1 2 m (31 * log_unit + l % log_unit) → IsLog 1 2 (m * power 2 (l / log_unit)) (31 * log_unit + l)
floated m l L =
    let sum : 31 * log_unit + l % log_unit + l / log_unit * log_unit ≡ 31 * log_unit + l = omega arith in
    rw sum at (of_shifted 1 2 m (31 * log_unit + l % log_unit) (l / log_unit) L)

pub below-33 : (l : ℕ) → power 2 (31 * log_unit + l % log_unit) ≤ power (2 ^ 32) log_unit
below-33 l = most_reached 32 (31 * log_unit + l % log_unit) (omega arith)

-- the value of the divisor in a place
pub value_at : (xs : List Floating) (i : ℕ) → slice_index (map value_of xs) i ≡ value_of (float_at xs i)
value_at xs i =
    let beyond : Floating = record { mantissa = 0; exponent = 0 } in
    let none : value_of beyond ≡ 0 = omega arith in
    ap (λ z. get_or (map value_of xs) i z) (sym none) ∙ lists.get_or-map value_of xs i beyond

-- the logarithm of the square of the scale
pub of_scale : IsLog 0 2 (float_scale * float_scale) (65598 * log_unit)
of_scale = rw (sym (power-add 2 32799 32799)) (of_power 65598)
