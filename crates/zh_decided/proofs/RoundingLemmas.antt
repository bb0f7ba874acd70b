-- What rounding a number costs: powers of a + 1 against powers of a.
use Rattle.std.proofs.Common.{◌≡◌, ℕ, zero, suc, refl, ap, ◌+◌, ◌-◌, ◌*◌, ◌<◌, ◌≤◌, arith}
use Rattle.std.proofs.Math.Nat.{mul-le-mul, mul-le-mul_left, mul-le-mul_right, le_of_mul-le-mul_right}
use Rattle.zh_decided.specs.Logarithms.{log_unit, power}
use Rattle.zh_decided.proofs.PowerLemmas.{power-add, power-mul, power-power, power-suc, power-zero, power_rises}

-- (a + 1)^m (a + 1 - m) ≤ a^m (a + 1), where a + 1 = m + d
falling : (a m d : ℕ) → a + 1 ≡ m + d → power (a + 1) m * d ≤ power a m * (a + 1)
falling a zero d e = rw (power-zero (a + 1), power-zero a) (omega arith)
falling a (suc m) d e =
    let before : power (a + 1) m * (d + 1) ≤ power a m * (a + 1) = falling a m (d + 1) (omega arith) in
    let a-is : a ≡ m + d = omega arith in
    let step : (a + 1) * d ≤ (d + 1) * a = rw a-is (omega arith) in
    let stepped : power (a + 1) m * ((a + 1) * d) ≤ power (a + 1) m * ((d + 1) * a) = mul-le-mul_left (power (a + 1) m) step in
    let scaled : power (a + 1) m * (d + 1) * a ≤ power a m * (a + 1) * a = mul-le-mul_right a before in
    rw (power-suc (a + 1) m, power-suc a m) (omega arith)

-- (a + 1)^n ≤ 2 a^n, where 2 n ≤ a + 1
at_most_double : (a n : ℕ) → 2 * n ≤ a + 1 → power (a + 1) n ≤ 2 * power a n
at_most_double a n le =
    let d : ℕ = a + 1 - n in
    let fell : power (a + 1) n * d ≤ power a n * (a + 1) = falling a n d (omega arith) in
    let half : power (a + 1) n * (a + 1) ≤ power (a + 1) n * (2 * d) = mul-le-mul_left (power (a + 1) n) (omega arith) in
    let both : power (a + 1) n * (a + 1) ≤ 2 * power a n * (a + 1) = omega arith in
    le_of_mul-le-mul_right both (omega arith)

-- a^m (a + m) ≤ (a + 1)^m a
rising : (a m : ℕ) → power a m * (a + m) ≤ power (a + 1) m * a
rising a zero = rw (power-zero (a + 1), power-zero a) (omega arith)
rising a (suc m) =
    let before : power a m * (a + m) ≤ power (a + 1) m * a = rising a m in
    let scaled : power a m * (a + m) * (a + 1) ≤ power (a + 1) m * a * (a + 1) = mul-le-mul_right (a + 1) before in
    rw (power-suc (a + 1) m, power-suc a m) (omega arith)

-- 2 a^a ≤ (a + 1)^a
at_least_double : (a : ℕ) → 0 < a → 2 * power a a ≤ power (a + 1) a
at_least_double a positive =
    let rose : power a a * (a + a) ≤ power (a + 1) a * a = rising a a in
    let both : 2 * power a a * a ≤ power (a + 1) a * a = omega arith in
    le_of_mul-le-mul_right both positive

-- from a to a + 1, the power n k is multiplied by at most 2^k
pub costs_at_most : (a n k u : ℕ) → n * k ≡ u → 2 * n ≤ a + 1 → power (a + 1) u ≤ power 2 k * power a u
costs_at_most a n k u e le =
    let one : power (power (a + 1) n) k ≤ power (2 * power a n) k = power_rises (power (a + 1) n) (2 * power a n) k (at_most_double a n le) in
    rw (power-power (a + 1) n k, power-mul 2 (power a n) k, power-power a n k, e) at one

-- 2 a^2 (a + 1)^m ≥ a^m (2 a^2 + 2 a m + m (m - 1))
rising_faster : (a m : ℕ) → power a m * (2 * a * a + 2 * a * m + m * (m - 1)) ≤ power (a + 1) m * (2 * a * a)
rising_faster a zero = rw (power-zero (a + 1), power-zero a) (omega arith)
rising_faster a (suc m) =
    let before : power a m * (2 * a * a + 2 * a * m + m * (m - 1)) ≤ power (a + 1) m * (2 * a * a) = rising_faster a m in
    let scaled : power a m * (2 * a * a + 2 * a * m + m * (m - 1)) * (a + 1) ≤ power (a + 1) m * (2 * a * a) * (a + 1)
    = mul-le-mul_right (a + 1) before in
    let less-one : suc m - 1 ≡ m = omega arith in
    let square : m ≤ m * (m - 1) + m = omega arith in
    let split : m * m ≡ m * (m - 1) + m = square-split m in
    let step : a * (2 * a * a + 2 * a * suc m + suc m * m) ≤ (2 * a * a + 2 * a * m + m * (m - 1)) * (a + 1) = omega (arith, ap (λ x. a * x) split) in
    let stepped : power a m * (a * (2 * a * a + 2 * a * suc m + suc m * m)) ≤ power a m * ((2 * a * a + 2 * a * m + m * (m - 1)) * (a + 1))
    = mul-le-mul_left (power a m) step in
    rw (power-suc (a + 1) m, power-suc a m, less-one) (omega arith)
  where
    square-split : (n : ℕ) → n * n ≡ n * (n - 1) + n
    square-split zero = refl
    square-split (suc n) = let less : suc n - 1 ≡ n = omega arith in rw less (omega arith)

-- 2 a^m ≤ (a + 1)^m already for some m below a
pub doubles_faster : (a m : ℕ) → 0 < a → 2 * a * a ≤ 2 * a * m + m * (m - 1) → 2 * power a m ≤ power (a + 1) m
doubles_faster a m positive enough =
    let b : ℕ = 2 * a * a in
    let rose : power a m * (b + 2 * a * m + m * (m - 1)) ≤ power (a + 1) m * b = rising_faster a m in
    let more : power a m * (b + b) ≤ power a m * (b + 2 * a * m + m * (m - 1)) = mul-le-mul_left (power a m) (omega arith) in
    let both : 2 * power a m * b ≤ power (a + 1) m * b = omega arith in
    le_of_mul-le-mul_right both (mul-le-mul (mul-le-mul {n₁ = 1} {m₁ = 1} (omega arith) positive) positive)

-- the power u is multiplied by at least 2^k, if the power m doubles and m k is at most u
pub costs_at_least : (a m k u : ℕ) → 2 * power a m ≤ power (a + 1) m → m * k ≤ u → power 2 k * power a u ≤ power (a + 1) u
costs_at_least a m k u doubles le =
    let rest : ℕ = u - m * k in
    let u-is : u ≡ m * k + rest = omega arith in
    let one : power (2 * power a m) k ≤ power (power (a + 1) m) k = power_rises (2 * power a m) (power (a + 1) m) k doubles in
    let whole : power 2 k * power a (m * k) ≤ power (a + 1) (m * k)
    = rw (power-power (a + 1) m k, power-mul 2 (power a m) k, power-power a m k) at one in
    let more : power a rest ≤ power (a + 1) rest = power_rises a (a + 1) rest (omega arith) in
    let first : power 2 k * power a (m * k) * power a rest ≤ power (a + 1) (m * k) * power a rest = mul-le-mul_right (power a rest) whole in
    let second : power (a + 1) (m * k) * power a rest ≤ power (a + 1) (m * k) * power (a + 1) rest = mul-le-mul_left (power (a + 1) (m * k)) more in
    rw (u-is, power-add a (m * k) rest, power-add (a + 1) (m * k) rest) (omega arith)

-- the logarithm of (f + 1) / f is at least s
pub record HasFactor (f s : ℕ) : Type 0 where
  pub some : 0 < f
  pub powers : power 2 s * power f log_unit ≤ power (f + 1) log_unit

pub factor : (f s : ℕ) → 0 < f → f * s ≤ log_unit → HasFactor f s
factor f s positive le = record { some = positive; powers = costs_at_least f f s log_unit (at_least_double f positive) le }

pub factor_faster : (f m s : ℕ) → 0 < f → 2 * f * f ≤ 2 * f * m + m * (m - 1) → m * s ≤ log_unit → HasFactor f s
factor_faster f m s positive enough le =
    record { some = positive; powers = costs_at_least f m s log_unit (doubles_faster f m positive enough) le }
