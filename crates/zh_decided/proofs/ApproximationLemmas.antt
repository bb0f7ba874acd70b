-- One squaring keeps the bounds of the approximation.
use Rattle.std.proofs.Common.{◌≡◌, ℕ, suc, ◌+◌, ◌-◌, ◌*◌, ◌%◌, ◌^◌, ◌<◌, ◌≤◌, refl, sym, ap, ◌∙◌, Bool, true, false, arith}
use Rattle.std.proofs.lemmas.Nat.{leading_top, pow-add, shl_whole}
use Rattle.std.proofs.Math.Nat.{mul-lt-mul_of_pos_right, mul-le-mul, mul-le-mul_left, mul-le-mul_right, le_of_mul-le-mul_right, one-le-pow, pow-le-pow_right}
use Rattle.std.specs.Int.{from_bool}
use lib.Count.{count_leading_zeros}
use Rattle.zh_decided.specs.Logarithms.{IsCutSquare, IsLog, power}
use Rattle.zh_decided.proofs.PowerLemmas.{power-add, power-four, power-is, power-one, power-two, power-zero, power_positive}

-- mantissa * 2^(logarithm - 63) is at most n^(2^i) and smaller than it by a factor of at most 1 + 4 (2^i - 1) / 2^63
pub record Approximates (n i mantissa logarithm : ℕ) : Type 0 where
  pub at_most : mantissa * power 2 logarithm ≤ 2 ^ 63 * power n (2 ^ i)
  pub nearly : 2 ^ 126 * power n (2 ^ i) ≤ mantissa * power 2 logarithm * (2 ^ 63 + 4 * (2 ^ i - 1))

-- the upper bound: if x ≤ b p and y b ≤ x x, then y ≤ b p p
pub squared_at_most : (b p x y : ℕ) → 0 < b → x ≤ b * p → y * b ≤ x * x → y ≤ b * (p * p)
squared_at_most b p x y positive h k =
    let square : x * x ≤ b * p * (b * p) = mul-le-mul h h in
    let both : y * b ≤ b * (p * p) * b = omega arith in
    le_of_mul-le-mul_right both positive

-- the error doubles, and truncation adds at most 3
grown : (b a : ℕ) → a * a ≤ b → 2 * a + 1 ≤ b → (b + 1) * ((b + a) * (b + a)) ≤ b * b * (b + (2 * a + 3))
grown b a square small =
    let s : a * a * (b + 1) ≤ b * (b + 1) = mul-le-mul_right (b + 1) square in
    let t : (2 * a + 1) * b ≤ b * b = mul-le-mul_right b small in
    omega arith

-- the lower bound, if x x ≤ z b, and truncation leaves y from z with z b ≤ y (b + 1)
pub squared_nearly : (b a p x y z : ℕ) → 0 < b → a * a ≤ b → 2 * a + 1 ≤ b → b * b * p ≤ x * (b + a) → x * x ≤ z * b →
    z * b ≤ y * (b + 1) → b * b * (p * p) ≤ y * (b + (2 * a + 3))
squared_nearly b a p x y z positive small-square small h cut rounded =
    let square : b * b * p * (b * b * p) ≤ x * (b + a) * (x * (b + a)) = mul-le-mul h h in
    let c : x * x * ((b + a) * (b + a)) ≤ z * b * ((b + a) * (b + a)) = mul-le-mul_right ((b + a) * (b + a)) cut in
    let r : z * b * ((b + a) * (b + a)) ≤ y * (b + 1) * ((b + a) * (b + a)) = mul-le-mul_right ((b + a) * (b + a)) rounded in
    let g : y * ((b + 1) * ((b + a) * (b + a))) ≤ y * (b * b * (b + (2 * a + 3))) = mul-le-mul_left y (grown b a small-square small) in
    let both : b * b * (p * p) * (b * b) ≤ y * (b + (2 * a + 3)) * (b * b) = omega arith in
    le_of_mul-le-mul_right both (mul-le-mul positive positive)

exponent : (i j : ℕ) → i ≤ j → 2 ^ i ≤ 2 ^ j
exponent i j le = pow-le-pow_right (omega arith) le

-- one more squaring
squared : (n i t old l m : ℕ) → i < 30 → 2 ^ 63 ≤ m → m * (2 ^ 63 * power 2 t) ≤ old * old → old * old < (m + 1) * (2 ^ 63 * power 2 t) →
    Approximates n i old l → Approximates n (i + 1) m (2 * l + t)
squared n i t old l m few least floor ceiling A =
    let w : ℕ = power 2 l in
    let v : ℕ = power 2 t in
    let x : ℕ = old * w in
    let p : ℕ = power n (2 ^ i) in
    let k : ℕ = 2 ^ i in
    let k-small : 2 ^ i ≤ 2 ^ 29 = exponent i 29 (omega arith) in
    let k-some : 1 ≤ k = one-le-pow i 2 (omega arith) in
    let a : ℕ = 4 * (k - 1) in
    let twice : 2 ^ (i + 1) ≡ 2 * k = rw (pow-add 2 i 1) (omega arith) in
    let power-is : power n (2 ^ (i + 1)) ≡ p * p = rw twice (power-two n k) in
    let scaled : power 2 (2 * l + t) ≡ w * w * v = rw (power-add 2 (2 * l) t, power-two 2 l) refl in
    let low : m * (2 ^ 63 * v) * (w * w) ≤ old * old * (w * w) = mul-le-mul_right (w * w) floor in
    let high : old * old * (w * w) ≤ (m + 1) * (2 ^ 63 * v) * (w * w) = mul-le-mul_right (w * w) (omega arith) in
    let y : ℕ = m * (w * w * v) in
    let z : ℕ = (m + 1) * (w * w * v) in
    let b : ℕ = 2 ^ 63 in
    let rounded : b * (w * w * v) ≤ m * (w * w * v) = mul-le-mul_right (w * w * v) least in
    let a-small : a ≤ 2 ^ 31 = omega arith in
    let square : a * a ≤ 2 ^ 31 * 2 ^ 31 = mul-le-mul a-small a-small in
    let square-small : a * a ≤ 2 ^ 63 = omega arith in
    let below : y ≤ 2 ^ 63 * (p * p) = squared_at_most (2 ^ 63) p x y (omega arith) A.at_most (omega arith) in
    let above : 2 ^ 63 * 2 ^ 63 * (p * p) ≤ y * (2 ^ 63 + (2 * a + 3))
    = squared_nearly (2 ^ 63) a p x y z (omega arith) square-small (omega arith) (omega (arith, A.nearly)) (omega arith) (omega arith) in
    let wider : y * (2 ^ 63 + (2 * a + 3)) ≤ y * (2 ^ 63 + 4 * (2 * k - 1)) = mul-le-mul_left y (omega arith) in
    record {
      at_most = rw (scaled, power-is) below;
      nearly = rw (scaled, power-is, twice) (omega arith);
    }

-- the same for the square that the code computes
pub squared_by_code : (n i m l q t : ℕ) (twice : Bool) → t ≡ from_bool twice → i < 30 → IsCutSquare m q twice → Approximates n i m l →
    Approximates n (i + 1) q (2 * l + t)
squared_by_code n i m l q t true e few S A =
    rw e (squared n i 1 m l q few S.least (rw (power-one 2) (omega (arith, S.at_most))) (rw (power-one 2) (omega (arith, S.nearly))) A)
squared_by_code n i m l q t false e few S A =
    rw e (squared n i 0 m l q few S.least (rw (power-zero 2) (omega (arith, S.at_most))) (rw (power-zero 2) (omega (arith, S.nearly))) A)

pub at_most_one : (t : ℕ) (twice : Bool) → t ≡ from_bool twice → t ≤ 1
at_most_one t true e = omega arith
at_most_one t false e = omega arith

-- the start: a number shifted to the top of 64 bits
pub begins : (n r : ℕ) → 1 ≤ n → n < 2 ^ 64 → r ≡ count_leading_zeros 64 n →
    (r ≤ 63) × (2 ^ 63 ≤ n * 2 ^ r % 2 ^ 64) × (n * 2 ^ r % 2 ^ 64 < 2 ^ 64) × Approximates n 0 (n * 2 ^ r % 2 ^ 64) (63 - r)
begins n r some most e =
    let top : (j : ℕ) × (count_leading_zeros 64 n + suc j ≡ 64) × (2 ^ j ≤ n) × (n < 2 ^ suc j) = leading_top 64 n some most in
    let j : ℕ = top.0 in
    let places : r + suc j ≡ 64 = rw e top.1 in
    let whole : n * 2 ^ r % 2 ^ 64 ≡ n * 2 ^ r = shl_whole n (suc j) r 64 top.3 (omega arith) in
    let j-is : 63 - r ≡ j = omega arith in
    let sum : r + j ≡ 63 = omega arith in
    let product : 2 ^ r * 2 ^ j ≡ 2 ^ 63 = sym (pow-add 2 r j) ∙ ap (λ x. 2 ^ x) sum in
    let least : 2 ^ j * 2 ^ r ≤ n * 2 ^ r = mul-le-mul_right (2 ^ r) top.2 in
    let scaled : n * (2 ^ r * 2 ^ j) ≡ n * 2 ^ 63 = ap (λ x. n * x) product in
    let power-one' : power n (2 ^ 0) ≡ n = power-one n in (
      omega arith,
      rw whole (omega arith),
      omega arith,
      record {
        at_most = rw (whole, j-is, power-is 2 j, power-one') (omega arith);
        nearly = rw (whole, j-is, power-is 2 j, power-one') (omega arith);
      },
    )

-- the end: after thirty squarings there is a logarithm
pub ends : (n m l : ℕ) → 2 ^ 63 ≤ m → m < 2 ^ 64 → Approximates n 30 m l → IsLog 0 2 n l
ends n m l least most A =
    let w : ℕ = power 2 l in
    let positive : 0 < w = power_positive 2 l (omega arith) in
    let low : 2 ^ 63 * w ≤ m * w = mul-le-mul_right w least in
    let high : m * w < 2 ^ 64 * w = mul-lt-mul_of_pos_right most positive in
    record {
      not_above = rw (power-zero 2) (omega (arith, A.at_most));
      not_below = rw (power-four l) (omega (arith, A.nearly));
    }
