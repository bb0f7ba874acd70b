-- One cell under two sets of divisors.
use Rattle.std.proofs.Common.{◌≡◌, ℕ, ◌+◌, ◌-◌, ◌*◌, ◌<◌, ◌≤◌, Bool, true, false, cond, inl, inr, refl, arith}
use Rattle.std.proofs.lemmas.Bool.{cases_lt}
use Rattle.std.proofs.Math.Nat.{mul-le-mul_left, mul-le-mul_right, mul-lt-mul_of_pos_right, mul-le-mul, le_of_mul-le-mul_left, mul-pos}
use Rattle.zh_divisors.specs.Rounding.{Rounds}
use Rattle.zh_matrices.specs.SeatMatrix.{MayRound}

-- a larger divisor gives no more seats, for any factor b / a
pub fewer_by : (a b v k k' p p' s s' : ℕ) → 0 < k' → b * (2 * (v * k)) < a * ((2 * s + 1) * p) →
    (1 ≤ s' → a * ((2 * s' - 1) * p') ≤ b * (2 * (v * k'))) → p * k' ≤ p' * k → s' ≤ s
fewer_by a b v k k' p p' s s' pos below above le =
    elim (cases_lt s s') [
      | inl lt ↦
          let e : a * ((2 * s' - 1) * p') * k ≤ b * (2 * (v * k')) * k = mul-le-mul_right k (above (omega arith)) in
          let f : b * (2 * (v * k)) * k' < a * ((2 * s + 1) * p) * k' = mul-lt-mul_of_pos_right below pos in
          let g : a * (2 * s + 1) * (p * k') ≤ a * (2 * s + 1) * (p' * k) = mul-le-mul_left (a * (2 * s + 1)) le in
          let h : (2 * s + 1) * (a * (p' * k)) ≤ (2 * s' - 1) * (a * (p' * k)) = mul-le-mul_right (a * (p' * k)) (omega arith) in
          absurd (omega arith)
      | inr le ↦ le
    ]

-- a smaller divisor gives no fewer seats
pub more_by : (a b v k k' p p' s s' : ℕ) → 0 < k' → (1 ≤ s → b * ((2 * s - 1) * p) < a * (2 * (v * k))) →
    a * (2 * (v * k')) ≤ b * ((2 * s' + 1) * p') → p' * k ≤ p * k' → s ≤ s'
more_by a b v k k' p p' s s' pos above below le =
    elim (cases_lt s' s) [
      | inl lt ↦
          let e : b * ((2 * s - 1) * p) * k' < a * (2 * (v * k)) * k' = mul-lt-mul_of_pos_right (above (omega arith)) pos in
          let f : a * (2 * (v * k')) * k ≤ b * ((2 * s' + 1) * p') * k = mul-le-mul_right k below in
          let g : b * (2 * s' + 1) * (p' * k) ≤ b * (2 * s' + 1) * (p * k') = mul-le-mul_left (b * (2 * s' + 1)) le in
          let h : (2 * s' + 1) * (b * (p * k')) ≤ (2 * s - 1) * (b * (p * k')) = mul-le-mul_right (b * (p * k')) (omega arith) in
          absurd (omega arith)
      | inr le ↦ le
    ]

pub fewer : (v k k' p p' s s' : ℕ) → 0 < k' → Rounds (v * k) p s → MayRound (v * k') p' s' →
    p * k' ≤ p' * k → s' ≤ s
fewer v k k' p p' s s' pos h h' le =
    fewer_by 1 1 v k k' p p' s s' pos (omega (arith, h.below_upper)) (λ some. omega (arith, h'.from_lower some)) le

pub more : (v k k' p p' s s' : ℕ) → 0 < k' → Rounds (v * k) p s → MayRound (v * k') p' s' →
    p' * k ≤ p * k' → s ≤ s'
more v k k' p p' s s' pos h h' le =
    more_by 1 1 v k k' p p' s s' pos (λ some. omega (arith, h.above_lower some)) (omega (arith, h'.to_upper)) le

-- a chain of ratios
pub chain : (a a' b b' u w : ℕ) → 0 < a → 0 < a' → a' * b ≤ b' * a → a * u ≤ a' * w → b * u ≤ b' * w
chain a a' b b' u w p q h k =
    let e : (a' * b) * (a * u) ≤ (b' * a) * (a' * w) = mul-le-mul h k in
    let f : (a * a') * (b * u) ≤ (a * a') * (b' * w) = omega arith in
    le_of_mul-le-mul_left f (mul-pos p q)

-- 1 for true and 0 for false
abbrev pub one_if : Bool → ℕ
one_if b = cond b 1 0

pub weighed : (a b : Bool) (s t : ℕ) →
    (a ≡ true → b ≡ false → t ≤ s) → (a ≡ false → b ≡ true → s ≤ t) →
    one_if a * t + one_if b * s ≤ one_if a * s + one_if b * t
weighed true true s t h k = omega arith
weighed true false s t h k = omega (arith, h refl refl)
weighed false true s t h k = omega (arith, k refl refl)
weighed false false s t h k = omega arith
