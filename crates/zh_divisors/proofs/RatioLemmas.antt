-- The order of ratios by cross products: a / p compares with b / q as a * q with b * p.
use Rattle.std.proofs.Common.{◌≡◌, ℕ, ◌+◌, ◌*◌, ◌<◌, ◌≤◌, ap, arith}
use Rattle.std.proofs.Math.Nat.{mul-le-mul_left, mul-lt-mul_of_pos_left, le_of_mul-le-mul_left, lt_of_mul-lt-mul_left}

-- a / p ≤ b / q ≤ c / r
pub le_by_le : (a p b q c r : ℕ) → 0 < q → a * q ≤ b * p → b * r ≤ c * q → a * r ≤ c * p
le_by_le a p b q c r positive h k =
    let below : r * (a * q) ≤ r * (b * p) = mul-le-mul_left r h in
    let above : p * (b * r) ≤ p * (c * q) = mul-le-mul_left p k in
    let both : q * (a * r) ≤ q * (c * p) = omega arith in
    le_of_mul-le-mul_left both positive

-- a / p ≤ b / q < c / r
pub lt_by_le_lt : (a p b q c r : ℕ) → 0 < p → a * q ≤ b * p → b * r < c * q → a * r < c * p
lt_by_le_lt a p b q c r positive h k =
    let below : r * (a * q) ≤ r * (b * p) = mul-le-mul_left r h in
    let above : p * (b * r) < p * (c * q) = mul-lt-mul_of_pos_left k positive in
    let both : q * (a * r) < q * (c * p) = omega arith in
    lt_of_mul-lt-mul_left q both

-- a / p < b / q ≤ c / r
pub lt_by_lt_le : (a p b q c r : ℕ) → 0 < r → a * q < b * p → b * r ≤ c * q → a * r < c * p
lt_by_lt_le a p b q c r positive h k =
    let below : r * (a * q) < r * (b * p) = mul-lt-mul_of_pos_left h positive in
    let above : p * (b * r) ≤ p * (c * q) = mul-le-mul_left p k in
    let both : q * (a * r) < q * (c * p) = omega arith in
    lt_of_mul-lt-mul_left q both

-- the sum of w * p < k * u and w * q ≤ k * v
pub below_sum : (w p q den k u v : ℕ) → p + q ≡ 2 * den → w * p < u * k → w * q ≤ v * k → 2 * (w * den) < k * (u + v)
below_sum w p q den k u v halves strict weak =
    let whole : w * (p + q) ≡ w * (2 * den) = ap (λ n. w * n) halves in
    omega arith

-- the same from above
pub above_sum : (w p q den k u v : ℕ) → p + q ≡ 2 * den → u * k ≤ w * p → v * k < w * q → k * (u + v) < 2 * (w * den)
above_sum w p q den k u v halves weak strict =
    let whole : w * (p + q) ≡ w * (2 * den) = ap (λ n. w * n) halves in
    omega arith
