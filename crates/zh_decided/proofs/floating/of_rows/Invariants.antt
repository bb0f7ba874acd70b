use Rattle.std.proofs.Common.{◌≡◌, ℕ, ◌+◌, ◌-◌, ◌*◌, ◌^◌, ◌<◌, ◌≤◌, length, slice_index}
use Rattle.zh_decided.specs.Floats.{float_at, value_of}
use Rattle.zh_decided.specs.Logarithms.{IsLog, log_unit}
use Rattle.zh_decided.proofs.floating.of_rows.Given as goal

abbrev pub invariant-loop-row : goal.invariant-loop-row
invariant-loop-row l = record {
  long : length l.divisors ≡ 32;
  logs : (k : ℕ) → k < l.row → IsLog 1 2 (value_of (float_at l.divisors k)) (31 * log_unit + (2 ^ 60 + 2 ^ 45 - slice_index l.potentials k));
  mantissas : (k : ℕ) → k < l.row → (float_at l.divisors k).mantissa ≤ 2 ^ 32;
  exponents : (k : ℕ) → k < l.row → (float_at l.divisors k).exponent ≤ 2 ^ 40;
}
