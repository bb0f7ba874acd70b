-- Floating-point divisors: whole numbers in units of 2^-32799. The product of two has the unit 2^-65598.
use Rattle.std.specs.Prelude.{ℕ, ◌*◌, List, map, slice_index_or}
use Rattle.zh_decided.specs.Logarithms.{power}
use Rattle.zh_matrices.specs.Divisors.{Divisors}
use Rattle.zh_decided.specs.declared.floating.FloatingDivisors.{FloatingDivisors}
use Rattle.zh_decided.specs.declared.floating.Floating.{Floating}

abbrev pub value_of : Floating → ℕ
value_of f = f.mantissa * power 2 f.exponent

abbrev pub float_scale : ℕ
float_scale = power 2 32799

-- the divisors as whole numbers, with their scale
abbrev pub floating : FloatingDivisors → Divisors
floating x = record { scale = float_scale; of_rows = map value_of x.of_rows; of_columns = map value_of x.of_columns }

-- the divisor in a place, or 0 beyond the last one
abbrev pub float_at : List Floating → ℕ → Floating
float_at xs i = slice_index_or xs i (record { mantissa = 0; exponent = 0 })
