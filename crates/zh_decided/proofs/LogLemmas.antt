-- Logarithms of products, and the order of numbers by their logarithms.
use Rattle.std.proofs.Common.{◌≡◌, ℕ, zero, suc, inl, inr, ◌+◌, ◌-◌, ◌*◌, ◌^◌, ◌<◌, ◌≤◌, refl, sym, ap, ◌∙◌, arith}
use Rattle.std.proofs.lemmas.Bool.{cases_lt}
use Rattle.std.proofs.lemmas.Nat.{mul-lt, pow-add}
use Rattle.std.proofs.Math.Nat.{mul-le-mul, mul-le-mul_left, mul-le-mul_right, mul-lt-mul_of_pos_left, lt_of_mul-lt-mul_left, pow-suc}
use Rattle.zh_decided.specs.Logarithms.{IsLog, log_unit, power}
use Rattle.zh_decided.proofs.PowerLemmas.{base_less, exponent_less, exponent_rises, power-add, power-four, power-is, power-mul, power-one, power-power, power-suc, power-zero, power_positive, power_rises}
use Rattle.zh_decided.proofs.RoundingLemmas.{HasFactor, costs_at_most}

-- the logarithm of a product is the sum of the logarithms, and the errors add up
pub of_product : (a b c d m n k l : ℕ) → IsLog a b m k → IsLog c d n l → IsLog (a + c) (b + d) (m * n) (k + l)
of_product a b c d m n k l M N =
    let high : power 2 k * power 2 l ≤ power 2 a * power m log_unit * (power 2 c * power n log_unit) = mul-le-mul M.not_above N.not_above in
    let low : power m log_unit * power n log_unit < power 2 (k + b) * power 2 (l + d) = mul-lt _ _ _ _ M.not_below N.not_below in
    let shape : k + l + (b + d) ≡ k + b + (l + d) = omega arith in
    record {
      not_above = rw (power-add 2 k l, power-add 2 a c, power-mul m n log_unit) (omega arith);
      not_below = rw (power-mul m n log_unit, shape, power-add 2 (k + b) (l + d)) low;
    }

-- a power of two as a factor adds a multiple of the unit, and no error
pub of_shifted : (a b n l e : ℕ) → IsLog a b n l → IsLog a b (n * power 2 e) (l + e * log_unit)
of_shifted a b n l e L =
    let unit : ℕ = log_unit in
    let p : ℕ = power 2 (e * unit) in
    let positive : 0 < p = power_positive 2 (e * unit) (omega arith) in
    let high : power 2 l * p ≤ power 2 a * power n unit * p = mul-le-mul_right p L.not_above in
    let low : p * power n unit < p * power 2 (l + b) = mul-lt-mul_of_pos_left L.not_below positive in
    let shape : l + e * unit + b ≡ l + b + e * unit = omega arith in
    record {
      not_above = rw (power-add 2 l (e * unit), power-mul n (power 2 e) unit, power-power 2 e unit) (omega arith);
      not_below = rw (power-mul n (power 2 e) unit, power-power 2 e unit, shape, power-add 2 (l + b) (e * unit)) (omega arith);
    }

-- a logarithm that is smaller by at least the errors belongs to a smaller number
pub less_by_logs : (a b c d m n k l : ℕ) → IsLog a b m k → IsLog c d n l → k + b + c ≤ l → m < n
less_by_logs a b c d m n k l M N le =
    let p : ℕ = power 2 c in
    let positive : 0 < p = power_positive 2 c (omega arith) in
    let low : p * power m log_unit < p * power 2 (k + b) = mul-lt-mul_of_pos_left M.not_below positive in
    let between : power 2 (k + b + c) ≤ power 2 l = exponent_rises 2 (k + b + c) l (omega arith) le in
    let split : power 2 (k + b + c) ≡ power 2 (k + b) * p = power-add 2 (k + b) c in
    let both : p * power m log_unit < p * power n log_unit = omega (arith, N.not_above) in
    base_less m n log_unit (lt_of_mul-lt-mul_left p both)

-- a logarithm that is larger by at most that of a factor belongs to a number that is larger by less than the factor
pub nearly_less_by_logs : (f s a b c d m n k l : ℕ) → HasFactor f s → IsLog a b m k → IsLog c d n l → k + b + c ≤ l + s → f * m < (f + 1) * n
nearly_less_by_logs f s a b c d m n k l H M N le =
    let u : ℕ = log_unit in
    let F : ℕ = power f u in
    let p : ℕ = power 2 c in
    let q : ℕ = power 2 s in
    let f-positive : 0 < F = power_positive f u H.some in
    let p-positive : 0 < p = power_positive 2 c (omega arith) in
    let low : F * p * power m u < F * p * power 2 (k + b) = mul-lt-mul_of_pos_left M.not_below (mul-le-mul f-positive p-positive) in
    let between : F * power 2 (k + b + c) ≤ F * power 2 (l + s) = mul-le-mul_left F (exponent_rises 2 (k + b + c) (l + s) (omega arith) le) in
    let first : F * power 2 (k + b + c) ≡ F * (power 2 (k + b) * p) = rw (power-add 2 (k + b) c) refl in
    let last : F * power 2 (l + s) ≡ F * (power 2 l * q) = rw (power-add 2 l s) refl in
    let high : F * q * power 2 l ≤ F * q * (p * power n u) = mul-le-mul_left (F * q) N.not_above in
    let factor : p * power n u * (q * F) ≤ p * power n u * power (f + 1) u = mul-le-mul_left (p * power n u) H.powers in
    let both : p * (F * power m u) < p * (power (f + 1) u * power n u) = omega arith in
    let powers : F * power m u < power (f + 1) u * power n u = lt_of_mul-lt-mul_left p both in
    base_less (f * m) ((f + 1) * n) u (rw (power-mul f m u, power-mul (f + 1) n u) powers)

-- if two numbers differ by a factor, so do their logarithms, up to the errors
pub apart_by_factor : (f s a b c d m n k l : ℕ) → HasFactor f s → IsLog a b m k → IsLog c d n l → (f + 1) * m ≤ f * n → k + s < l + d + a
apart_by_factor f s a b c d m n k l H M N le =
    elim (cases_lt (k + s) (l + d + a)) [
      | inl lt ↦ lt
      | inr near ↦ absurd (omega (arith, nearly_less_by_logs f s c d a b n m l k H N M near))
    ]

-- the logarithms are in the order of the numbers, up to the errors
pub logs_in_order : (a b c d m n k l : ℕ) → IsLog a b m k → IsLog c d n l → m ≤ n → k < l + d + a
logs_in_order a b c d m n k l M N le =
    let p : ℕ = power 2 a in
    let positive : 0 < p = power_positive 2 a (omega arith) in
    let low : p * power m log_unit ≤ p * power n log_unit = mul-le-mul_left p (power_rises m n log_unit le) in
    let high : p * power n log_unit < p * power 2 (l + d) = mul-lt-mul_of_pos_left N.not_below positive in
    let split : power 2 (l + d + a) ≡ power 2 (l + d) * p = power-add 2 (l + d) a in
    exponent_less 2 k (l + d + a) (omega arith) (omega (arith, M.not_above))

-- a number that has a logarithm is positive
pub positive_by_log : (a b n l : ℕ) → IsLog a b n l → 0 < n
positive_by_log a b n l L =
    let low : 0 < power 2 l = power_positive 2 l (omega arith) in
    let nothing : power 2 a * 0 ≡ 0 = omega arith in
    elim (cases_lt 0 n) [
      | inl lt ↦ lt
      | inr le ↦
          let zero-is : n ≡ 0 = omega arith in
          let none : power 2 l ≤ power 2 a * power 0 log_unit = rw zero-is at L.not_above in
          let gone : power 0 log_unit ≡ 0 = zero-power log_unit (omega arith) in
          absurd (omega (arith, rw (gone, nothing) at none))
    ]
  where
    zero-power : (e : ℕ) → 0 < e → power 0 e ≡ 0
    zero-power zero lt = absurd (omega arith)
    zero-power (suc e) lt = rw (power-suc 0 e) (omega arith)

-- the logarithm of a power of two
pub of_power : (e : ℕ) → IsLog 0 2 (power 2 e) (e * log_unit)
of_power e =
    let positive : 0 < power 2 (e * log_unit) = power_positive 2 (e * log_unit) (omega arith) in
    record {
      not_above = rw (power-zero 2, power-power 2 e log_unit) (omega arith);
      not_below = rw (power-power 2 e log_unit, power-four (e * log_unit)) (omega arith);
    }

-- the bisection for a number by its logarithm: a logarithm of at least k units reaches 2^k
pub least_reached : (k r : ℕ) → k * log_unit ≤ r → power (2 ^ k) log_unit < power 2 (r + 2)
least_reached k r le =
    let base : power (2 ^ k) log_unit ≡ power 2 (k * log_unit) = rw (sym (power-is 2 k)) (power-power 2 k log_unit) in
    let rises : power 2 (k * log_unit) ≤ power 2 r = exponent_rises 2 (k * log_unit) r (omega arith) le in
    let positive : 0 < power 2 r = power_positive 2 r (omega arith) in
    rw (base, power-four r) (omega arith)

-- it reaches each number whose logarithm is no larger
pub reached : (n l r : ℕ) → IsLog 0 2 n l → l ≤ r → power n log_unit < power 2 (r + 2)
reached n l r L le = omega (arith, L.not_below, exponent_rises 2 (l + 2) (r + 2) (omega arith) (omega arith))

-- it does not reach beyond a number whose logarithm is larger
pub passed : (n l r : ℕ) → IsLog 0 2 n l → r < l → power 2 r ≤ power n log_unit
passed n l r L lt =
    let whole : power 2 l ≤ 1 * power n log_unit = rw (power-zero 2) at L.not_above in
    omega (arith, exponent_rises 2 r l (omega arith) (omega arith))

-- if a logarithm reaches n but not beyond n + 1, it is that of n, at most 2^(31 - k) units too high
pub rounded_down : (k n r : ℕ) → 1 ≤ k → k ≤ 31 → 2 ^ k ≤ n → power n log_unit < power 2 (r + 2) → power 2 r ≤ power (n + 1) log_unit →
    IsLog (2 ^ (31 - k)) 2 n r
rounded_down k n r some few least low high =
    let one : k ≡ suc (k - 1) = omega arith in
    let double : 2 ^ k ≡ 2 ^ (k - 1) * 2 = ap (λ x. 2 ^ x) one ∙ pow-suc 2 (k - 1) in
    let exponents : k - 1 + (31 - k) ≡ 30 = omega arith in
    let product : 2 ^ (k - 1) * 2 ^ (31 - k) ≡ log_unit = sym (pow-add 2 (k - 1) (31 - k)) ∙ ap (λ x. 2 ^ x) exponents in
    let cost : power (n + 1) log_unit ≤ power 2 (2 ^ (31 - k)) * power n log_unit
    = costs_at_most n (2 ^ (k - 1)) (2 ^ (31 - k)) log_unit product (omega arith) in
    record { not_above = omega arith; not_below = low }

-- a logarithm of at most k units does not reach beyond 2^k
pub most_reached : (k r : ℕ) → r ≤ k * log_unit → power 2 r ≤ power (2 ^ k) log_unit
most_reached k r le =
    let base : power (2 ^ k) log_unit ≡ power 2 (k * log_unit) = rw (sym (power-is 2 k)) (power-power 2 k log_unit) in
    rw base (exponent_rises 2 r (k * log_unit) (omega arith) le)

-- a logarithm and all below it do not reach beyond the number
pub reaches : (b n l r : ℕ) → IsLog 0 b n l → r ≤ l → power 2 r ≤ power n log_unit
reaches b n l r L le =
    let whole : power 2 l ≤ 1 * power n log_unit = rw (power-zero 2) at L.not_above in
    omega (arith, exponent_rises 2 r l (omega arith) le)

-- each number from 1 on has a logarithm
floor-log : (m : ℕ) → 0 < m → (l : ℕ) × (power 2 l ≤ m) × (m < power 2 (l + 1))
floor-log zero some = absurd (omega arith)
floor-log (suc m) some =
    elim (cases_lt 0 m) [
      | inl more ↦
          let before : (l : ℕ) × (power 2 l ≤ m) × (m < power 2 (l + 1)) = floor-log m more in
          elim (cases_lt (suc m) (power 2 (before.0 + 1))) [
            | inl less ↦ (before.0, omega (arith, before.1), less)
            | inr high ↦
                let next : power 2 (suc (before.0 + 1)) ≡ power 2 (before.0 + 1) * 2 = power-suc 2 (before.0 + 1) in
                let one : before.0 + 1 + 1 ≡ suc (before.0 + 1) = omega arith in
                (before.0 + 1, high, rw (one, next) (omega (arith, before.2)))
          ]
      | inr none ↦
          let nothing : m ≡ 0 = omega arith in
          (0, rw (power-zero 2) (omega arith), rw (power-one 2) (omega arith))
    ]

pub log_of : ℕ → ℕ
log_of zero = 0
log_of (suc n) = (floor-log (power (suc n) log_unit) (power_positive (suc n) log_unit (omega arith))).0

pub log_of-is : (n : ℕ) → 0 < n → IsLog 0 1 n (log_of n)
unfolding log_of
log_of-is zero some = absurd (omega arith)
log_of-is (suc n) some =
    let floor : (l : ℕ) × (power 2 l ≤ power (suc n) log_unit) × (power (suc n) log_unit < power 2 (l + 1))
    = floor-log (power (suc n) log_unit) (power_positive (suc n) log_unit (omega arith)) in
    record {
      not_above = rw (power-zero 2) (omega (arith, floor.1));
      not_below = floor.2;
    }
